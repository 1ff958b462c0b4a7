-- The sum after i places is `strips_of` of these.
use mathlib.Core.Path.{◌≡◌}
use Rattle.questions.specs.Eaten.{strips_of}
use Rattle.questions.proofs.eaten.strips_of.Given as goal

abbrev pub invariant-loop-i : goal.invariant-loop-i
invariant-loop-i l = l.sum ≡ strips_of l.nodes l.i
