-- What the rest of a walk says and marks is what the whole row says and marks. A step is below 2^33, so the sum of the steps fits.
use mathlib.Core.Path.{◌≡◌}
use Prim.Native.Nat.{◌*◌, ◌-◌, ◌≤◌}
use Rattle.lists.specs.Lists.{limit}
use Rattle.table.specs.Table.{at}
use Rattle.sound.specs.Columns.{nexts_of}
use Rattle.sound.specs.Rows.{chain_b}
use Rattle.sound.specs.Hung.{mark_row}
use Rattle.sound.proofs.rows.row_ok.Given as goal

abbrev pub invariant-loop-step : goal.invariant-loop-step
invariant-loop-step l =
    record {
      small : l.sum ≤ l._step * 8589934592;
      linked : chain_b limit l.settings l.nodes l.q (limit - l._step) l.pv l.p l.sum ≡ chain_b limit l.settings l.nodes l.q limit limit (at l.nodes l.q).first 0;
      marked : mark_row limit (nexts_of l.nodes) (limit - l._step) l.p l.hung ≡ mark_row limit (nexts_of l.nodes) limit (at l.nodes l.q).first l.initial.hung;
    }
