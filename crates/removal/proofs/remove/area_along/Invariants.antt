-- `area_along` meets its contract. The loop's invariant: the sum is the area along the first places. Assumes nothing.
use mathlib.Core.Path.{◌≡◌}
use Rattle.lists.specs.Lists.{entries}
use Rattle.removal.specs.Going.{area_along}
use Rattle.removal.proofs.remove.area_along.Given as goal

abbrev pub invariant-loop-p : goal.invariant-loop-p
invariant-loop-p l = l.sum ≡ area_along l.nodes (entries l.p-index l.fn.g.order)
