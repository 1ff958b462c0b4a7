-- `walks::numbers::put_numbers` meets its contract. The loop's invariant: the numbers along the first i places are written (`Wrote`). Assumes
-- nothing.
use Rattle.walks.specs.Along.{number_at}
use Rattle.walks.proofs.Entries.{Wrote}
use Rattle.walks.proofs.numbers.put_numbers.Given as goal

abbrev pub invariant-loop-i : goal.invariant-loop-i
invariant-loop-i l = Wrote (number_at l.nodes) l.order l.initial.out l.i l.out l.n
