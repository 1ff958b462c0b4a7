-- The measure and the invariant of `walks::snapshot::put_subtree`: what is still to be written (`Left`). The recursion's measure is `left`.
use Prim.Native.Nat.{◌-◌}
use Rattle.lists.specs.Lists.{limit}
use Rattle.table.specs.Columns.{firsts_of, nexts_of}
use Rattle.walks.specs.Walk.{nothing}
use Rattle.walks.specs.Columns.{columns_of, node_bytes_in}
use Rattle.walks.proofs.Written.{Left}
use Rattle.walks.proofs.WalkSteps.{yet, below}
use Rattle.walks.proofs.snapshot.+put_subtree.Given as goal

abbrev pub decreases-put_subtree : goal.decreases-put_subtree
decreases-put_subtree l = l.left

abbrev pub invariant-loop-turn : goal.invariant-loop-turn
invariant-loop-turn l =
    let t = l.nodes in
    let own = node_bytes_in (columns_of t) in
    Left (below limit (firsts_of t) (nexts_of t) own nothing l.left l.x) l.initial.out l.initial.k
    (yet limit (firsts_of t) (nexts_of t) own nothing l.left l.x (l.left - l._turn) l.c) l.out l.k
