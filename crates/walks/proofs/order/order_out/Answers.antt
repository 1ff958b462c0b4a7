-- `walks::order::order_out` meets its contract. The loop's invariant: where the walk stands, and what is still to be written there (`Stand`). The
-- measure is the turns that are left. Following has the argument: here stand the places of the walk in its words. Assumes nothing.
use mathlib.Core.Path.{refl, ap, ◌∙◌}
use native.Mathlib.Omega.{arith}
use lib.ListN.{length}
use lib.Seq.{length-sets}
use borrow.Author.Rules.{rules}
use Rattle.lists.specs.Lists.{limit}
use Rattle.walks.specs.Order.{itself}
use Rattle.walks.specs.Columns.{order_in}
use Rattle.walks.proofs.Written.{Left, end}
use Rattle.walks.proofs.Following.{Up, room, gone-down, gone-up, arrived, never, placed, few, set_out}
use Rattle.walks.proofs.order.order_out.Goals as goal
use Rattle.walks.proofs.order.order_out.Goals.{else-down-ge-NONE, else-loop-turns-test, then-down-ge-NONE+else-up-x, then-loop-turns-test+then-down-ge-NONE+then-up-x}

-- `up` is written
written : (c : goal.Else-up-x) → Up limit _ _ c.loop-turns.invariant c.if-down-ge-NONE.true c.if-up-x.false
written c = gone-up limit _ _ c.loop-turns.invariant c.if-down-ge-NONE.true c.if-up-x.false

-- x is left
last-own :
    (c : goal.Left-loop-turns)
    → let a = c.args in
    let i = c.loop-turns in
    Left (order_in limit a.nodes.now a.held a.x) a.order.now a.n (itself a.x) i.order i.k
last-own c =
    let i = c.loop-turns in
    elim c.loop-turns-test.branch [ else-loop-turns-test w ↦ never limit _ _ i.invariant w.loop-turns-test.false | then-loop-turns-test+then-down-ge-NONE+then-up-x w ↦ arrived limit _ _ i.invariant w.if-down-ge-NONE.true w.if-up-x.true ]

pub loop-turns-preserved : goal.loop-turns-preserved
loop-turns-preserved c =
    let i = c.loop-turns in
    elim c.if-down-ge-NONE.branch [ then-down-ge-NONE+else-up-x w ↦ rw (w.order-is, w.k-is, w.up-is, w.down-is) (gone-up limit _ _ i.invariant w.if-down-ge-NONE.true w.if-up-x.false).gone-on | else-down-ge-NONE w ↦ rw (w.order-is, w.k-is, w.up-is, w.down-is) (gone-down limit _ _ i.invariant w.if-down-ge-NONE.false) ]

pub returns : goal.returns
returns c =
    let e = end (itself c.args.x) (last-own c) refl refl in
    record { written = e.0; counted = e.1 }

pub offset_bounds-nodes-x : goal.offset_bounds-nodes-x
offset_bounds-nodes-x c =
    let h = placed limit c.requires.0 in search rules

pub bounds-nodes-x : goal.bounds-nodes-x
bounds-nodes-x c =
    let h = placed limit c.requires.0 in search rules

pub overflow_add-turns : goal.overflow_add-turns
overflow_add-turns c =
    let h = few limit c.requires.0 in search rules

pub loop-turns-init : goal.loop-turns-init
loop-turns-init c =
    set_out limit c.requires.0 _ _ c.requires.1

pub offset_bounds-order-k : goal.offset_bounds-order-k
offset_bounds-order-k c =
    omega (arith, room limit _ _ c.loop-turns.invariant)

pub bounds-order-k : goal.bounds-order-k
bounds-order-k c =
    omega (arith, room limit _ _ c.loop-turns.invariant)

pub overflow_add-k : goal.overflow_add-k
overflow_add-k c =
    omega (arith, room limit _ _ c.loop-turns.invariant)

pub overflow_cast-done : goal.overflow_cast-done
overflow_cast-done c =
    let h = (written c).low in search rules

pub offset_bounds-nodes-up : goal.offset_bounds-nodes-up
offset_bounds-nodes-up c =
    let h = (written c).low in search rules

pub bounds-nodes-up : goal.bounds-nodes-up
bounds-nodes-up c =
    let h = (written c).low in search rules

pub offset_bounds-order-k-2 : goal.offset_bounds-order-k-2
offset_bounds-order-k-2 c =
    omega (arith, room limit _ _ c.loop-turns.invariant)

pub bounds-order-k-2 : goal.bounds-order-k-2
bounds-order-k-2 c =
    omega (arith, room limit _ _ c.loop-turns.invariant)

pub overflow_add-result : goal.overflow_add-result
overflow_add-result c =
    omega (arith, room limit _ _ c.loop-turns.invariant)

pub shape_of-order : goal.shape_of-order
shape_of-order c =
    ap length (returns c).written ∙ simp length-sets
