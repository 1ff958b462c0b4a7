-- Document 01, "Removal": take two pieces out, each a part or a structure, neither below the other: the tree is the same whichever went first.
-- The new free pieces' marks may differ, but the first one does not get the place of the piece that is still to go, which is held then.
use mathlib.Core.Path.{◌≡◌}
use Prim.Native.Nat.{ℕ}
use Rattle.piece.specs.declared.settings.Settings.{Settings}
use Rattle.tree.specs.Tree.{Tree}
use Rattle.tree.specs.Sound.{Sound}
use Rattle.tree.specs.Snapshot.{Same}
use Rattle.tree.specs.Removal.{remove}
use Rattle.tree.specs.Apart.{Removable}
use Rattle.tree.proofs.Shapes.{same-of-shape}
use Rattle.tree.proofs.Removals.{removes-commute}

pub removals-commute : {limit : ℕ} {settings : Settings} (t : Tree) (x y n s m s' n' u m' u' : ℕ) → Sound limit settings t
    → Removable x t → Removable y t → (x ≡ y → ⊥) → (y ≡ n → ⊥) → (x ≡ m' → ⊥)
    → Same (remove y m s' (remove x n s t)) (remove x n' u (remove y m' u' t))
removals-commute {settings} t x y n s m s' n' u m' u' w ax ay xy yn xm =
    same-of-shape (remove y m s' (remove x n s t)) (remove x n' u (remove y m' u' t))
    (removes-commute settings x y n s m s' n' u m' u' t w ax ay xy yn xm)
