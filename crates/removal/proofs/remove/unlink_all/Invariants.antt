-- `unlink_all` meets its contract. The loop's invariant: the table is what is left when the first places are unlinked. Assumes nothing.
use mathlib.Core.Path.{◌≡◌}
use Rattle.lists.specs.Lists.{limit, entries}
use Rattle.table.specs.Steps.{unlink_all}
use Rattle.removal.proofs.remove.unlink_all.Given as goal

abbrev pub invariant-loop-x : goal.invariant-loop-x
invariant-loop-x l = l.nodes ≡ unlink_all limit l.initial.nodes (entries l.x-index l.fn.g.order)
