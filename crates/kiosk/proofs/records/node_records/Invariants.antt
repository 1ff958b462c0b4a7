-- `node_records` meets its contract: the array is filled as far as the loop has come.
use mathlib.Core.Path.{◌≡◌}
use lib.ListN.{replicate}
use Rattle.lists.specs.Lists.{limit}
use Rattle.lists.proofs.Fill.{filled}
use Rattle.kiosk.specs.Records.{no_record, node_records}
use Rattle.kiosk.proofs.records.node_records.Given as goal

abbrev pub invariant-loop-i : goal.invariant-loop-i
invariant-loop-i l = l.records ≡ filled (replicate limit no_record) (node_records l.nodes) l.i
