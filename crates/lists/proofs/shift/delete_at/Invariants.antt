-- `lists::shift::delete_at` meets its contract: the loop moves down what stands behind the index, the first entry first. Assumes nothing.
use Prim.Native.Nat.{◌<◌}
use Rattle.lists.proofs.Moves.{Lowered}
use Rattle.lists.proofs.shift.delete_at.Given as goal

abbrev pub invariant-loop-i : goal.invariant-loop-i
invariant-loop-i l = Lowered l.initial.list l.list l.at l.i × (l.at < l.i)
