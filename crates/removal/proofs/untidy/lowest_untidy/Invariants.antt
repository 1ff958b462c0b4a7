-- `removal::untidy::lowest_untidy` meets its contract. The loop's invariant: the answer from i on is the answer. Assumes nothing.
use mathlib.Core.Path.{◌≡◌}
use Rattle.removal.specs.Untidy.{lowest_untidy}
use Rattle.removal.proofs.Bare.{untidy_from}
use Rattle.removal.proofs.untidy.lowest_untidy.Given as goal

abbrev pub invariant-loop-i : goal.invariant-loop-i
invariant-loop-i l = untidy_from l.nodes l.i ≡ lowest_untidy l.nodes
