-- `lists::serials::residues_differ` meets its contract: no two of the serials that were passed agree, and their flags stand alone. Assumes nothing.
use mathlib.Core.Path.{◌≡◌}
use mathlib.Core.Bool.{true}
use Rattle.lists.specs.Search.{every}
use Rattle.lists.specs.Inner.{unlike_below}
use Rattle.lists.proofs.Residues.{Passed}
use Rattle.lists.proofs.serials.residues_differ.Given as goal

abbrev pub invariant-loop-a : goal.invariant-loop-a
invariant-loop-a l = (every (unlike_below l.s) l.a-index ≡ true) × Passed l.s l.a-index l.flag
