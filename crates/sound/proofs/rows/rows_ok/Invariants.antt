-- The rows that the loop has passed are linked, filled and marked.
use mathlib.Core.Path.{◌≡◌}
use mathlib.Core.Bool.{true}
use Rattle.lists.specs.Lists.{limit}
use Rattle.lists.specs.Search.{every}
use Rattle.sound.specs.Rows.{row_b}
use Rattle.sound.specs.Hung.{hang_rows}
use Rattle.sound.proofs.rows.rows_ok.Given as goal

abbrev pub invariant-loop-q : goal.invariant-loop-q
invariant-loop-q l =
    record {
      linked : every (row_b limit l.settings l.nodes) l.q ≡ true;
      marked : l.hung ≡ hang_rows limit l.nodes l.q l.initial.hung;
    }
