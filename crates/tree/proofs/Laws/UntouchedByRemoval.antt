-- What a removal does not touch keeps its place, its serial and all else that it is: every piece that `cleared` leaves, all but the removed one,
-- what is below it, and the free piece at the end of its row. Document 01, "Removal": "that piece and the removed one are replaced by one free piece".
use Prim.Native.Nat.{ℕ}
use Rattle.piece.specs.declared.node.Datum.{Datum}
use Rattle.tree.specs.Tree.{Tree, At}
use Rattle.tree.specs.Removal.{remove, cleared}
use Rattle.tree.proofs.Stays.{at-remove}

pub untouched-by-removal : (t : Tree) (x n s i : ℕ) (e : Datum) → At i e (cleared x t) → At i e (remove x n s t)
untouched-by-removal t x n s i e there = at-remove x n s i e t there
