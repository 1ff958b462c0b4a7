-- The sum after i places is `area_listed` of these.
use mathlib.Core.Path.{◌≡◌}
use Rattle.sound.specs.Listed.{area_listed}
use Rattle.sound.proofs.columns.free_sum.Given as goal

abbrev pub invariant-loop-i : goal.invariant-loop-i
invariant-loop-i l = l.sum ≡ area_listed 0 l.kind l.area l.i
