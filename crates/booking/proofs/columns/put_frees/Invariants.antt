-- `columns::put_frees` meets its contract. The loop's invariant is `Putting` of proofs/Growing.antt: the free ones still to come bring the list to what all
-- bring it to. Assumes nothing.
use Rattle.layout_nodes.specs.Listings.{area_at, entries_of}
use Rattle.booking.specs.NewNodes.{those}
use Rattle.booking.proofs.Growing.{Putting}
use Rattle.booking.proofs.columns.put_frees.Given as goal

abbrev pub invariant-loop-n : goal.invariant-loop-n
invariant-loop-n l = Putting (area_at l.areas) (those l.fn.new) (entries_of l.fn.free) l.n-index l.l
