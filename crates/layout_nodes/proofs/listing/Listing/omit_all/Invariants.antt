-- `Listing::omit_all` meets its contract: the pass keeps, of the entries that it has come by, those that the order leaves. Assumes nothing.
use lib.ListN.{take}
use Rattle.layout_nodes.proofs.OnePass.{Passed}
use Rattle.layout_nodes.proofs.listing.Listing.omit_all.Given as goal

abbrev pub invariant-loop-place : goal.invariant-loop-place
invariant-loop-place l =
    Passed (take l.fn.self.count l.fn.self.list) l.order l.count l.place-index (record { list = l.list; count = l.kept })
