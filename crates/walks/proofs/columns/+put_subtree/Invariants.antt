-- The measure and the invariant of `columns::put_subtree`: what is still to be written (`Left`). The recursion's measure is `left`.
use Prim.Native.Nat.{◌-◌}
use Rattle.lists.specs.Lists.{limit}
use Rattle.walks.specs.Walk.{nothing}
use Rattle.walks.specs.Snapshot.{bytes_at}
use Rattle.walks.proofs.Written.{Left}
use Rattle.walks.proofs.WalkSteps.{yet, below}
use Rattle.walks.proofs.columns.+put_subtree.Given as goal

abbrev pub decreases-put_subtree : goal.decreases-put_subtree
decreases-put_subtree l = l.left

abbrev pub invariant-loop-turn : goal.invariant-loop-turn
invariant-loop-turn l =
    let own = bytes_at l.level l.kind l.cut l.number l.width l.height l.eaten in
    Left (below limit l.first l.next own nothing l.left l.x) l.initial.out l.initial.k
    (yet limit l.first l.next own nothing l.left l.x (l.left - l._turn) l.c) l.out l.k
