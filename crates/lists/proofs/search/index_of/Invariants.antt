-- `lists::search::index_of` meets its contract: a search, of which `Scan` has the steps. Assumes nothing.
use Rattle.lists.specs.Search.{stands_at}
use Rattle.lists.proofs.Scan.{Searching}
use Rattle.lists.proofs.search.index_of.Given as goal

abbrev pub invariant-loop-i : goal.invariant-loop-i
invariant-loop-i l = Searching (stands_at l.list l.place) l.count l.i
