-- A refused call that writes into a buffer and hands no layout back, whatever it writes, the tree snapshot, the part numbers or the saw cuts: the buffer is
-- as it was. Assumes nothing.
use mathlib.Core.Path.{◌≡◌, refl}
use mathlib.Core.Bool.{Bool, true, false}
use mathlib.Core.List.{List}
use Prim.Native.Nat.{ℕ}
use lib.Dec.{leb}
use lib.ListN.{length}
use Rattle.std.specs.Prelude.{Err}
use Rattle.lists.proofs.Scan.{clash}
use Rattle.marks.specs.declared.Refusal.{Refusal}
use Rattle.layout.specs.declared.layout.Layout.{Layout}
use Rattle.layout.specs.Check.{sound_b}
use Rattle.questions.specs.Written.{answer_to, left_in_buffer}

pub refused-writing : (l : Layout) (what out : List ℕ) (e : Refusal) → answer_to l what (length out) ≡ Err e → left_in_buffer l what out ≡ out
refused-writing l what out e h = go (sound_b l) (leb (length what) (length out)) refl refl
  where
    go : (a b : Bool) → sound_b l ≡ a → leb (length what) (length out) ≡ b → left_in_buffer l what out ≡ out
    go true true x y = let o = rw (x, y) at h in absurd (clash (cc))
    go true false x y = rw (x, y) refl
    go false b x y = rw x refl
