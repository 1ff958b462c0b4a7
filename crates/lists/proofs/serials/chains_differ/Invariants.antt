-- `lists::serials::chains_differ` meets its contract. Outside, the serials of the classes that were passed stand once; inside, so do those of one
-- class from the place on that the walk has come down to. The measure of the walk is the number that it stands at. Assumes nothing.
use mathlib.Core.Path.{◌≡◌}
use Prim.Native.Nat.{ℕ, ◌+◌, ◌≤◌}
use Rattle.lists.specs.Lists.{limit}
use Rattle.lists.specs.Inner.{class_at}
use Rattle.lists.proofs.Visits.{Done}
use Rattle.lists.proofs.Visits.{Visited}
use Rattle.lists.proofs.serials.chains_differ.Given as goal

abbrev pub invariant-loop-c : goal.invariant-loop-c
invariant-loop-c l = (l.c ≤ limit) × Visited l.s l.h l.c l.stamp × ((p : ℕ) → l.c ≡ p + 1 → class_at l.s p ≡ l.h)

abbrev pub decreases-loop-c : goal.decreases-loop-c
decreases-loop-c l = l.c

abbrev pub invariant-loop-h : goal.invariant-loop-h
invariant-loop-h l = Done l.s l.h l.stamp
