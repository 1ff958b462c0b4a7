-- `tidy` meets its contract. The loop's invariant: from the layout that came so many structures were taken out, and `left` is what is left. The measure is how
-- many structures of that have no part inside.
use Rattle.tree.specs.Tidy.{empties}
use Rattle.layout.specs.Check.{tree}
use Rattle.layout.proofs.TidyEnds.{Taken}
use Rattle.layout.proofs.layout.Layout.tidy.Given as goal

abbrev pub invariant-loop-self : goal.invariant-loop-self
invariant-loop-self l = Taken l.self l.count l.left

abbrev pub decreases-loop-self : goal.decreases-loop-self
decreases-loop-self l = empties (tree l.left)
