-- The measure and the invariant of `columns::usage_of`: the sum, with what the children from c on add to it, is the whole sum. The recursion's
-- measure is `left`.
use mathlib.Core.Path.{◌≡◌}
use Prim.Native.Nat.{◌-◌}
use lib.ListN.{get_or}
use Rattle.tree.specs.Figures.{nought}
use Rattle.lists.specs.Lists.{limit}
use Rattle.walks.proofs.UsageSteps.{sum}
use Rattle.walks.proofs.columns.+usage_of.Given as goal

abbrev pub decreases-usage_of : goal.decreases-usage_of
decreases-usage_of l = l.left

abbrev pub invariant-loop-turn : goal.invariant-loop-turn
invariant-loop-turn l =
    sum limit l.first l.next l.kind l.area l.left (l.left - l._turn) l.c l.sum
    ≡ sum limit l.first l.next l.kind l.area l.left (l.left - 1) (get_or l.first l.x 0) nought
