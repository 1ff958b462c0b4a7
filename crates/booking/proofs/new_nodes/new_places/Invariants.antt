-- `new_places` meets its contract. The loop's invariant is `Found` of proofs/NewPlaces.antt. Assumes nothing.
use Rattle.booking.proofs.NewPlaces.{Found}
use Rattle.booking.proofs.new_nodes.new_places.Given as goal

abbrev pub invariant-loop-k : goal.invariant-loop-k
invariant-loop-k l = Found l.nodes l.k l.places l.from
