-- `Listing::strike_all` meets its contract: the places that the loop has passed are struck out, and the column says where each entry that is left
-- stands. Assumes nothing.
use mathlib.Core.Path.{◌≡◌}
use Prim.Native.Nat.{◌-◌, ◌<◌}
use lib.ListN.{length, take}
use lib.Seq.{get_or-take, length-take-le}
use native.Mathlib.Omega.{arith}
use Rattle.lists.specs.Lists.{limit}
use Rattle.layout_nodes.proofs.Listed.{strike-each, left_end}
use Rattle.layout_nodes.proofs.Lookup.{struck-start, struck-one, struck-none}
use Rattle.layout_nodes.proofs.listing.Listing.strike_all.Goals as goal
use Rattle.layout_nodes.proofs.listing.Listing.strike_all.Goals.{After-wide-v, else-at-n, then-at-n}

-- the final one is a place
final-low : (c : After-wide-v) → c.wide-v.result < limit
final-low c =
    let l = c.loop-place in
    rw c.wide-v.ensures (l.invariant.spotted.low (l.n - 1) (omega arith))

pub loop-place-init : goal.loop-place-init
loop-place-init c = struck-start c.args.order.now c.requires.0 c.requires.2 c.spots_of-spots.ensures

pub spot_in-at-requires : goal.spot_in-at-requires
spot_in-at-requires c = let w = c.loop-place.invariant in (w.left.kept.room, w.spotted)

pub offset_bounds-list-last : goal.offset_bounds-list-last
offset_bounds-list-last c = omega (arith, c.loop-place.invariant.left.kept.room)

pub bounds-list-last : goal.bounds-list-last
bounds-list-last c = omega (arith, c.loop-place.invariant.left.kept.room)

pub bounds-spots-v : goal.bounds-spots-v
bounds-spots-v c = final-low c

pub swap_out-requires : goal.swap_out-requires
swap_out-requires c = (c.if-at-n.true, c.loop-place.invariant.left.kept.room)

pub loop-place-preserved : goal.loop-place-preserved
loop-place-preserved c =
    let l = c.loop-place in
    let w = l.invariant in
    let few : length (take c.args.count c.args.order.now) ≡ c.args.count = length-take-le c.args.count c.args.order.now (omega arith) in
    let p = rw (get_or-take c.args.count c.args.order.now l.place-index 0 (omega arith)) at c.spot_in-at.ensures in
    elim c.if-at-n.branch [
      | then-at-n v ↦ rw (v.list-is, v.n-is, v.spots-is) (struck-one w p v.if-at-n.true v.wide-v.ensures v.swap_out.ensures)
      | else-at-n v ↦ rw (v.list-is, v.n-is, v.spots-is) (struck-none w p v.if-at-n.false)
    ]

pub returns : goal.returns
returns c =
    let few : length (take c.args.count c.args.order.now) ≡ c.args.count = length-take-le c.args.count c.args.order.now (omega arith) in
    left_end strike-each c.args.order.now c.loop-place.invariant.left (omega arith)
