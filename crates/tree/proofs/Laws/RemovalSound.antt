-- Removal of a part or a structure below the top keeps a sound tree sound, wherever the new free piece gets an unheld place. Document 01,
-- "Removal", "Sound layout" and "Marks".
use mathlib.Core.Logic.{⊎_elim}
use Prim.Native.Nat.{ℕ, ◌<◌}
use native.Mathlib.Omega.{arith}
use Rattle.piece.specs.declared.settings.Settings.{Settings}
use Rattle.tree.specs.Tree.{Tree, In}
use Rattle.tree.specs.Sound.{Sound}
use Rattle.tree.specs.Removal.{remove, cleared}
use Rattle.tree.specs.Apart.{Removable}
use Rattle.tree.proofs.Pieces.{sound}
use Rattle.tree.proofs.RemoveKept.{remove-topped, remove-distinct}
use Rattle.tree.proofs.Counts.{count-remove, in-cleared, in_remove}

pub removal-sound : (limit : ℕ) (settings : Settings) (t : Tree) (x n s : ℕ) → Sound limit settings t → Removable x t → n < limit
    → (In n (cleared x t) → ⊥) → Sound limit settings (remove x n s t)
removal-sound limit settings t x n s h m b unheld =
    sound h.domain (remove-topped settings x n s t h.topped h.distinct m)
    (omega (arith, count-remove x n s t))
    (λ i g. ⊎_elim (λ e. omega arith) (λ z. h.placed i (in-cleared x i t z)) (in_remove x n s i t g))
    (remove-distinct x n s t h.distinct unheld)
