-- `lists::search::zero_tail` meets its contract: every index that was passed is below the count or has a zero. Assumes nothing.
use mathlib.Core.Path.{◌≡◌}
use mathlib.Core.Bool.{true}
use Rattle.lists.specs.Search.{every, zero_at}
use Rattle.lists.proofs.search.zero_tail.Given as goal

abbrev pub invariant-loop-i : goal.invariant-loop-i
invariant-loop-i l = every (zero_at l.list l.count) l.i ≡ true
