-- `Listing::strike_all` meets its contract: the places that the loop has passed are struck out, and the column says where each entry that is left
-- stands. Assumes nothing.
use Rattle.layout_nodes.specs.Listings.{entries_of}
use Rattle.layout_nodes.proofs.Lookup.{Struck}
use Rattle.layout_nodes.proofs.listing.Listing.strike_all.Given as goal

abbrev pub invariant-loop-place : goal.invariant-loop-place
invariant-loop-place l = Struck (entries_of l.fn.self) l.order l.place-index (record { list = l.list; count = l.n }) l.spots
