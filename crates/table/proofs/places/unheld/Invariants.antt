-- `table::places::unheld` meets its contract. The loop's invariant: the answer from i on is the answer. Assumes nothing.
use mathlib.Core.Path.{◌≡◌}
use Rattle.lists.specs.Lists.{limit}
use Rattle.table.specs.Unheld.{lowest_from}
use Rattle.table.proofs.places.unheld.Given as goal

abbrev pub invariant-loop-i : goal.invariant-loop-i
invariant-loop-i l = lowest_from limit l.nodes l.i ≡ lowest_from limit l.nodes l.from
