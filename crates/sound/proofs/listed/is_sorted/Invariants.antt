-- Each entry passed comes before the next; the last one has none.
use mathlib.Core.Path.{◌≡◌}
use mathlib.Core.Bool.{true}
use Prim.Native.Nat.{◌+◌, ◌-◌, ◌≤◌}
use Rattle.lists.specs.Search.{every}
use Rattle.sound.proofs.Lists.{ordered_at}
use Rattle.sound.proofs.listed.is_sorted.Given as goal

abbrev pub invariant-loop-k : goal.invariant-loop-k
invariant-loop-k l = record { within : l.k ≤ l.count + 1; ordered : every (ordered_at l.area l.serial l.list l.count) (l.k - 1) ≡ true }
