-- `enrol` meets its contract. The loop's invariant is `Enrolling` of proofs/Growing.antt: what the nodes still to come bring makes of the list what all
-- bring. Assumes nothing.
use mathlib.Core.Path.{sym, ◌∙◌}
use mathlib.Core.List.{◌++◌}
use Rattle.layout_nodes.specs.Listings.{entries_of}
use Rattle.booking.specs.NewNodes.{enrolments, those}
use Rattle.booking.proofs.Growing.{coming-start, Parted, part-needs, part-more, part-pass, parent-needs, parent-more, parent-pass, enrolling-end}
use Rattle.booking.proofs.new_nodes.enrol.Goals as goal
use Rattle.booking.proofs.new_nodes.enrol.Goals.{Joined-is_part, else-is_part, else-n, then-is_part, then-n}

-- when the node has come, if it is a part
joined : (c : Joined-is_part) → Parted (those c.args.new) (entries_of c.args.removable) c.loop-n.n-index c.if-is_part.l
joined c =
    let a = c.args in
    let l = c.loop-n in
    elim c.if-is_part.branch [
      | then-is_part w ↦ part-more (those a.new) (entries_of a.removable) l.n-index l.invariant c.loop-n-test.true
          (sym c.is_part.ensures ∙ w.if-is_part.true) (w.l-is ∙ w.push-l.ensures)
      | else-is_part w ↦ part-pass (those a.new) (entries_of a.removable) l.n-index l.invariant c.loop-n-test.true
          (sym c.is_part.ensures ∙ w.if-is_part.false) w.l-is
    ]

pub loop-n-init : goal.loop-n-init
loop-n-init c = coming-start ◌++◌ (enrolments (those c.args.new)) c.args.removable c.requires.0 c.requires.2

pub push-l-requires : goal.push-l-requires
push-l-requires c =
    let a = c.args in
    part-needs (those a.new) (entries_of a.removable) c.loop-n.n-index c.loop-n.invariant c.loop-n-test.true (sym c.is_part.ensures ∙ c.if-is_part.true)

pub push-l-requires-then-n : goal.push-l-requires-then-n
push-l-requires-then-n c =
    let a = c.args in
    parent-needs (those a.new) (entries_of a.removable) c.loop-n.n-index (joined c.before) c.if-n.true

pub loop-n-preserved : goal.loop-n-preserved
loop-n-preserved c =
    let a = c.args in
    elim c.if-n.branch [
      | then-n w ↦ parent-more (those a.new) (entries_of a.removable) c.loop-n.n-index (joined c.before) w.if-n.true (w.l-is ∙ w.push-l-then-n.ensures)
      | else-n w ↦ parent-pass (those a.new) (entries_of a.removable) c.loop-n.n-index (joined c.before) w.if-n.false w.l-is
    ]

pub returns : goal.returns
returns c = enrolling-end (those c.args.new) (entries_of c.args.removable) c.loop-n.n-index c.loop-n.invariant c.loop-n-test.false
