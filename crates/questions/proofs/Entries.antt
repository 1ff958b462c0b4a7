-- What a sound layout says of its lists: an entry that counts is the place of a piece of the tree, of the kind that the list holds.
use mathlib.Core.Path.{◌≡◌}
use mathlib.Core.List.{List}
use mathlib.Core.Bool.{true, false}
use Prim.Native.Nat.{ℕ, ◌<◌, ◌≤◌}
use native.Mathlib.Omega.{arith}
use lib.ListN.{get_or, length, take}
use lib.Seq.{get_or-take}
use Rattle.piece.specs.declared.node.Datum.{Datum}
use Rattle.piece.specs.declared.node.Kind.TheVariants.{Free}
use Rattle.tree.specs.Tree.{At}
use Rattle.walks.specs.Inner.{Placed}
use Rattle.piece.specs.Kinds.{is_free}
use Rattle.layout.specs.declared.layout.Layout.{Layout}
use Rattle.layout.specs.Check.{limit, tree, sound_b}
use Rattle.layout.specs.SoundLayout.{Pieces, Holding, SoundLayout, Sized}
use Rattle.layout.proofs.Listed.{entries, piece-low}
use Rattle.layout.proofs.Exactly.{sound-says}

-- an entry that counts, in the list with its tail
pub entry_at : {P : Datum → Type 0} {A : Pieces} (l : List ℕ) (n : ℕ) → n ≤ length l → Holding P A (take n l) → (k : ℕ) → k < n
    → (d : Datum) × A (get_or l k 0) d × P d
entry_at l n fits h k b = rw (get_or-take n l k 0 b) at (h.each k (rw (entries l n fits) b))

module _ (l : Layout) (sized : Sized l) (s : SoundLayout l) where
  pub free-entry : (k : ℕ) → k < l.frees → (d : Datum) × At (get_or l.free k 0) d (tree l) × (d.kind ≡ Free)
  free-entry = entry_at l.free l.frees (omega arith) s.free.holding

  pub removable-entry : (k : ℕ) → k < l.removables → (d : Datum) × At (get_or l.removable k 0) d (tree l) × (is_free d.kind ≡ false)
  removable-entry = entry_at l.removable l.removables (omega arith) s.removable

-- the code, which knows that the test says yes, can read at it
module _ (l : Layout) (sized : Sized l) (ok : sound_b l ≡ true) where
  low : {P : Datum → Type 0} {p : ℕ} → ((d : Datum) × At p d (tree l) × P d) → p < limit
  low e = piece-low l.nodes (tree l) (sound-says l sized ok).holds _ e.0 e.1

  pub free-low : (l.frees ≤ limit) × Placed limit l.frees l.free
  free-low = let s = sound-says l sized ok in (omega arith, λ k b. low (free-entry l sized s k b))

  pub removable-low : (l.removables ≤ limit) × Placed limit l.removables l.removable
  removable-low = let s = sound-says l sized ok in (omega arith, λ k b. low (removable-entry l sized s k b))
