-- `columns::areas_of` meets its contract: the column is filled as far as the loop has come. Assumes nothing.
use mathlib.Core.Path.{◌≡◌}
use Rattle.lists.specs.Lists.{limit, zeros}
use Rattle.lists.proofs.Fill.{filled}
use Rattle.table.specs.Columns.{areas_of}
use Rattle.layout_nodes.proofs.columns.areas_of.Given as goal

abbrev pub invariant-loop-i : goal.invariant-loop-i
invariant-loop-i l = l.areas ≡ filled (zeros limit) (areas_of l.nodes) l.i
