-- `Listing::omit_all` meets its contract: the pass keeps, of the entries that it has come by, those that the order leaves. Assumes nothing.
use native.Mathlib.Omega.{arith}
use Rattle.layout_nodes.specs.Listings.{entries_of}
use Rattle.layout_nodes.proofs.OnePass.{passed_none, passed-room, passed-keep, passed-drop, passed-all}
use Rattle.layout_nodes.proofs.listing.Listing.omit_all.Goals as goal
use Rattle.layout_nodes.proofs.listing.Listing.omit_all.Goals.{else-count-spots, then-count-spots}

pub loop-place-init : goal.loop-place-init
loop-place-init c = let a = c.args in passed_none a.order.now a.count (entries_of a.self)

-- there is room to keep the entry
pub bounds-list-kept : goal.bounds-list-kept
bounds-list-kept c =
    let l = c.loop-place in
    passed-room c.args.order.now c.args.count c.requires.0 c.requires.2 l.place-index c.loop-place-test.true l.invariant

pub offset_bounds-list-kept : goal.offset_bounds-list-kept
offset_bounds-list-kept c =
    let l = c.loop-place in
    omega (arith, passed-room c.args.order.now c.args.count c.requires.0 c.requires.2 l.place-index c.loop-place-test.true l.invariant)

pub overflow_add-kept : goal.overflow_add-kept
overflow_add-kept c =
    let l = c.loop-place in
    omega (arith, passed-room c.args.order.now c.args.count c.requires.0 c.requires.2 l.place-index c.loop-place-test.true l.invariant)

pub loop-place-preserved : goal.loop-place-preserved
loop-place-preserved c =
    let l = c.loop-place in
    let f = c.spots_of-spots.ensures in
    let o = c.args.order.now in
    let n = c.args.count in
    elim c.if-count-spots.branch [
      | then-count-spots v ↦ rw (v.list-is, v.kept-is)
          (passed-keep o n c.requires.0 c.requires.2 l.place-index c.loop-place-test.true l.invariant (rw f at v.if-count-spots.true))
      | else-count-spots v ↦ rw (v.list-is, v.kept-is)
          (passed-drop o n c.requires.0 c.requires.2 l.place-index c.loop-place-test.true l.invariant (rw f at v.if-count-spots.false))
    ]

pub returns : goal.returns
returns c = passed-all c.args.order.now c.args.count c.args.self c.loop-place-test.false c.loop-place.invariant
