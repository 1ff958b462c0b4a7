-- The bytes of a snapshot say the tree, and only the tree: two sound trees have the same bytes exactly where they are the same apart from
-- places and serials. Document 01, "The sheet and its pieces" ("Same tree") and "Tree snapshot".
use mathlib.Core.Path.{◌≡◌}
use mathlib.Core.Logic.{◌↔◌}
use Prim.Native.Nat.{ℕ}
use Rattle.piece.specs.declared.settings.Settings.{Settings}
use Rattle.tree.specs.Tree.{Tree}
use Rattle.tree.specs.Sound.{Sound}
use Rattle.tree.specs.Snapshot.{Same, shape}
use Rattle.tree.proofs.Shapes.{same-of-shape}
use Rattle.tree.proofs.Read.{tree-read, sound-readable}

pub same-tree : {limit limit' : ℕ} {settings settings' : Settings} (t u : Tree)
    → Sound limit settings t → Sound limit' settings' u
    → Same t u ↔ (shape t ≡ shape u)
same-tree t u s s' = (tree-read 0 t u (sound-readable t s) (sound-readable u s'), same-of-shape t u)
