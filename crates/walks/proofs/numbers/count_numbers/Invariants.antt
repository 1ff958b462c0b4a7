-- `walks::numbers::count_numbers` meets its contract. The loop's invariant: so many numbers are along the first i places, and at most i. Assumes
-- nothing.
use mathlib.Core.Path.{◌≡◌}
use Prim.Native.Nat.{◌≤◌}
use lib.ListN.{length}
use Rattle.lists.specs.Lists.{entries}
use Rattle.walks.specs.Along.{numbers_along}
use Rattle.walks.proofs.numbers.count_numbers.Given as goal

abbrev pub invariant-loop-i : goal.invariant-loop-i
invariant-loop-i l = (l.found ≤ l.i) × (l.found ≡ length (numbers_along l.nodes (entries l.i l.order)))
