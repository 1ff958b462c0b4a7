-- `new_places` meets its contract. The loop's invariant is `Found` of proofs/NewPlaces.antt. Assumes nothing.
use native.Mathlib.Omega.{arith}
use Rattle.booking.proofs.NewPlaces.{found_none, found-more, found-most, found_all}
use Rattle.booking.proofs.new_nodes.new_places.Goals as goal

pub loop-k-init : goal.loop-k-init
loop-k-init c = found_none c.args.nodes.now

pub overflow_add-from : goal.overflow_add-from
overflow_add-from c =
    omega (arith, found-most c.args.nodes.now c.loop-k.invariant c.loop-k-test.true c.unheld-place.ensures)

pub loop-k-preserved : goal.loop-k-preserved
loop-k-preserved c = found-more c.args.nodes.now c.loop-k.invariant c.loop-k-test.true c.unheld-place.ensures

pub returns : goal.returns
returns c = found_all c.args.nodes.now c.loop-k.invariant c.loop-k-test.false
