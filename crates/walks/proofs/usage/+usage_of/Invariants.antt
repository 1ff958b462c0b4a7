-- The measure and the invariant of `walks::usage::usage_of`: the sum, with what the children from c on add to it, is the whole sum. The recursion's
-- measure is `left`.
use mathlib.Core.Path.{◌≡◌}
use Prim.Native.Nat.{◌-◌}
use Rattle.tree.specs.Figures.{nought}
use Rattle.lists.specs.Lists.{limit}
use Rattle.table.specs.Columns.{firsts_of, nexts_of, kinds_of, areas_of}
use Rattle.walks.proofs.UsageSteps.{sum}
use Rattle.walks.proofs.usage.+usage_of.Given as goal

abbrev pub decreases-usage_of : goal.decreases-usage_of
decreases-usage_of l = l.left

abbrev pub invariant-loop-turn : goal.invariant-loop-turn
invariant-loop-turn l =
    let t = l.nodes in
    sum limit (firsts_of t) (nexts_of t) (kinds_of t) (areas_of t) l.left (l.left - l._turn) l.c l.sum
    ≡ sum limit (firsts_of t) (nexts_of t) (kinds_of t) (areas_of t) l.left (l.left - 1) l.own.first nought
