-- `nodes_of` meets its contract: the array is filled as far as the loop has come.
use mathlib.Core.Path.{◌≡◌}
use lib.ListN.{replicate}
use Rattle.lists.specs.Lists.{limit}
use Rattle.lists.proofs.Fill.{filled}
use Rattle.table.specs.Table.{zero_node}
use Rattle.kiosk.specs.Records.{nodes_of_records}
use Rattle.kiosk.proofs.records.nodes_of.Given as goal

abbrev pub invariant-loop-i : goal.invariant-loop-i
invariant-loop-i l = l.nodes ≡ filled (replicate limit zero_node) (nodes_of_records l.records) l.i
