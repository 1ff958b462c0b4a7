-- The sum after so many nodes is `area_listed` of these.
use mathlib.Core.Path.{◌≡◌}
use Rattle.table.specs.Columns.{kinds_of, areas_of}
use Rattle.sound.specs.Listed.{area_listed}
use Rattle.sound.proofs.listed.free_sum.Given as goal

abbrev pub invariant-loop-node : goal.invariant-loop-node
invariant-loop-node l = l.sum ≡ area_listed 0 (kinds_of l.nodes) (areas_of l.nodes) l.node-index
