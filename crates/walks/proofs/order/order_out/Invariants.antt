-- `walks::order::order_out` meets its contract. The loop's invariant: where the walk stands, and what is still to be written there (`Stand`). The
-- measure is the turns that are left. Following has the argument: here stand the places of the walk in its words. Assumes nothing.
use Rattle.lists.specs.Lists.{limit}
use Rattle.walks.specs.Columns.{order_in}
use Rattle.walks.proofs.Following.{Stand}
use Rattle.walks.proofs.order.order_out.Given as goal

abbrev pub invariant-loop-turns : goal.invariant-loop-turns
invariant-loop-turns l =
    Stand limit l.nodes l.x (order_in limit l.nodes l.held l.x) l.initial.order l.n l.order l.k l.up l.down l.turns

abbrev pub decreases-loop-turns : goal.decreases-loop-turns
decreases-loop-turns l = l.turns
