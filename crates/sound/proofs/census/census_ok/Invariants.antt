-- The pass: the columns are written as far as it has come, and the tests and the sums are those of the places passed.
use mathlib.Core.Path.{◌≡◌}
use Rattle.lists.specs.Lists.{limit}
use Rattle.lists.proofs.Fill.{filled}
use Rattle.sound.specs.Columns.{areas_of, serials_of}
use Rattle.sound.proofs.Counted.{Counting}
use Rattle.sound.proofs.census.census_ok.Given as goal

abbrev pub invariant-loop-i : goal.invariant-loop-i
invariant-loop-i l =
    record {
      serials : l.serial ≡ filled l.initial.serial (serials_of l.nodes) l.i;
      areas : l.area ≡ filled l.initial.area (areas_of l.nodes) l.i;
      counting : Counting limit l.nodes l.last l.used l.free l.removable l.hung l.ok l.count l.left l.i;
    }
