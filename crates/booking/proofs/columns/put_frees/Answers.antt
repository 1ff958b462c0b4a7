-- `columns::put_frees` meets its contract. The loop's invariant is `Putting` of proofs/Growing.antt: the free ones still to come bring the list to what all
-- bring it to. Assumes nothing.
use mathlib.Core.Path.{sym, ◌∙◌}
use native.Mathlib.Omega.{arith}
use Rattle.tree.specs.ListSteps.{put_all}
use Rattle.layout_nodes.specs.Listings.{area_at, entries_of}
use Rattle.booking.specs.NewNodes.{frees_of, those}
use Rattle.booking.proofs.Growing.{coming-start, frees-most, putting-needs, putting-more, putting-pass, putting-end}
use Rattle.booking.proofs.columns.put_frees.Goals as goal
use Rattle.booking.proofs.columns.put_frees.Goals.{else-is_free, then-is_free}

pub loop-n-init : goal.loop-n-init
loop-n-init c =
    let n = c.args.new in
    coming-start (put_all (area_at c.args.areas.now)) (frees_of (those n)) c.args.free c.requires.0
    (omega (arith, frees-most n.count n.list, c.requires.2))

pub put-l-requires : goal.put-l-requires
put-l-requires c =
    let a = c.args in
    putting-needs (area_at a.areas.now) (those a.new) (entries_of a.free) c.loop-n.n-index c.loop-n.invariant c.loop-n-test.true
    (sym c.is_free.ensures ∙ c.if-is_free.true)

pub loop-n-preserved : goal.loop-n-preserved
loop-n-preserved c =
    let a = c.args in
    let l = c.loop-n in
    elim c.if-is_free.branch [
      | then-is_free w ↦ putting-more (area_at a.areas.now) (those a.new) (entries_of a.free) l.n-index l.invariant c.loop-n-test.true
          (sym c.is_free.ensures ∙ w.if-is_free.true) (w.l-is ∙ w.put-l.ensures)
      | else-is_free w ↦ putting-pass (area_at a.areas.now) (those a.new) (entries_of a.free) l.n-index l.invariant c.loop-n-test.true
          (sym c.is_free.ensures ∙ w.if-is_free.false) w.l-is
    ]

pub returns : goal.returns
returns c =
    let a = c.args in
    putting-end (area_at a.areas.now) (those a.new) (entries_of a.free) c.loop-n.n-index c.loop-n.invariant c.loop-n-test.false
