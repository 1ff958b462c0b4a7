-- A removal leaves every part and every structure other than the removed one and what is below it, with its place, serial and all else.
-- Document 01, "Removal".
use mathlib.Core.Path.{◌≡◌}
use mathlib.Core.Bool.{false}
use Prim.Native.Nat.{ℕ}
use Rattle.piece.specs.declared.node.Datum.{Datum}
use Rattle.piece.specs.declared.settings.Settings.{Settings}
use Rattle.tree.specs.Tree.{Tree, At, Inside}
use Rattle.piece.specs.Kinds.{is_free}
use Rattle.tree.specs.Sound.{Sound}
use Rattle.tree.specs.Removal.{remove}
use Rattle.tree.specs.Apart.{Removable}
use Rattle.tree.proofs.Stays.{at-cleared}
use Rattle.tree.proofs.Laws.UntouchedByRemoval.{untouched-by-removal}

pub solid-untouched-by-removal : (limit : ℕ) (settings : Settings) (t : Tree) (x n s i : ℕ) (e : Datum) → Sound limit settings t
    → Removable x t → At i e t → is_free e.kind ≡ false → (i ≡ x → ⊥) → (Inside x i t → ⊥) → At i e (remove x n s t)
solid-untouched-by-removal limit settings t x n s i e h m there solid apart outside =
    untouched-by-removal t x n s i e (at-cleared settings x i e t h.topped m.below solid apart outside there)
