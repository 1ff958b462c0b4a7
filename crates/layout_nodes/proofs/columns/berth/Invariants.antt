-- `columns::berth` meets its contract: a search, of which `Scan` has the steps. Assumes nothing.
use Rattle.lists.proofs.Scan.{Searching}
use Rattle.layout_nodes.specs.Listings.{area_at}
use Rattle.layout_nodes.proofs.Listed.{smaller_in}
use Rattle.layout_nodes.proofs.columns.berth.Given as goal

abbrev pub invariant-loop-i : goal.invariant-loop-i
invariant-loop-i l = Searching (smaller_in (area_at l.areas) l.listing.list l.area) l.listing.count l.i
