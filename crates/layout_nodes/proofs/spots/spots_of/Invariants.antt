-- `spots::spots_of` meets its contract: the column says where the entries that the loop has passed stand first. Assumes nothing.
use Rattle.layout_nodes.proofs.Lookup.{Spotting}
use Rattle.layout_nodes.proofs.spots.spots_of.Given as goal

abbrev pub invariant-loop-j : goal.invariant-loop-j
invariant-loop-j l = Spotting l.list l.count l.j l.spots
