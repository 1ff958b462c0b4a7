-- Document 01, "Tree snapshot": "13 bytes each"; "Same tree means that the tree snapshots (below) agree in every byte". What the call hands out,
-- of sound layouts.
use mathlib.Core.Path.{◌≡◌}
use mathlib.Core.Logic.{◌↔◌}
use Prim.Native.Nat.{◌*◌}
use lib.ListN.{length}
use Rattle.tree.specs.Tree.{count}
use Rattle.tree.specs.Snapshot.{Same, shape}
use Rattle.tree.proofs.Laws.SameTree.{same-tree}
use Rattle.walks.proofs.Along.{length-snapshot}
use Rattle.layout.specs.declared.layout.Layout.{Layout}
use Rattle.layout.specs.Check.{tree}
use Rattle.layout.specs.SoundLayout.{SoundLayout}
use Rattle.questions.specs.Written.{snapshot_bytes}

pub snapshot-length : (l : Layout) → SoundLayout l → length (snapshot_bytes l) ≡ 14 * count (tree l)
unfolding snapshot_bytes
snapshot-length l s = length-snapshot (tree l)

module _ (l m : Layout) (s : SoundLayout l) (s' : SoundLayout m) where
  -- the bytes agree where the trees are the same, and only there
  pub same_bytes : Same (tree l) (tree m) ↔ (snapshot_bytes l ≡ snapshot_bytes m)
  unfolding snapshot_bytes
  same_bytes = ((λ h. h.bytes), (λ e. record { bytes = e }))

  -- and that is where the trees differ in nothing but places and serials
  pub same_shape : (snapshot_bytes l ≡ snapshot_bytes m) ↔ (shape (tree l) ≡ shape (tree m))
  same_shape =
      let law = same-tree (tree l) (tree m) s.sound s'.sound in
      ((λ e. law.0 (same_bytes.1 e)), (λ e. same_bytes.0 (law.1 e)))
