-- `lists::shift::insert_at` meets its contract: the loop moves up what stands from the index on, the last entry first. Assumes nothing.
use mathlib.Core.Path.{◌≡◌}
use Prim.Native.Nat.{◌≤◌}
use Rattle.lists.proofs.Moves.{raised}
use Rattle.lists.proofs.shift.insert_at.Given as goal

abbrev pub invariant-loop-i : goal.invariant-loop-i
invariant-loop-i l = (l.at ≤ l.i) × (l.list ≡ raised l.initial.list l.count l.i)
