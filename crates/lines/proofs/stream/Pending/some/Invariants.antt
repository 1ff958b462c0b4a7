-- `Pending::some` meets its contract: adding what is left to what is pending gives what adding all gives. Assumes nothing.
use mathlib.Core.Path.{◌≡◌}
use lib.ListN.{drop}
use Rattle.lines.specs.Stream.{adds}
use Rattle.lines.proofs.stream.Pending.some.Given as goal

abbrev pub invariant-loop-x : goal.invariant-loop-x
invariant-loop-x l = adds l.p (drop l.x-index l.chars) ≡ adds l.initial.p l.chars
