-- `enrol` meets its contract. The loop's invariant is `Enrolling` of proofs/Growing.antt: what the nodes still to come bring makes of the list what all
-- bring. Assumes nothing.
use Rattle.layout_nodes.specs.Listings.{entries_of}
use Rattle.booking.specs.NewNodes.{those}
use Rattle.booking.proofs.Growing.{Enrolling}
use Rattle.booking.proofs.new_nodes.enrol.Given as goal

abbrev pub invariant-loop-n : goal.invariant-loop-n
invariant-loop-n l = Enrolling (those l.fn.new) (entries_of l.fn.removable) l.n-index l.l
