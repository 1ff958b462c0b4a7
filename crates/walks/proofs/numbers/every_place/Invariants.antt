-- `walks::numbers::every_place` meets its contract. The loop's invariant: the first i entries are the numbers below i. Assumes nothing.
use mathlib.Core.Path.{◌≡◌}
use lib.ListN.{length, take}
use Rattle.lists.specs.Lists.{limit}
use Rattle.walks.specs.Along.{below}
use Rattle.walks.proofs.numbers.every_place.Given as goal

abbrev pub invariant-loop-i : goal.invariant-loop-i
invariant-loop-i l = (length l.order ≡ limit) × (take l.i l.order ≡ below l.i)
