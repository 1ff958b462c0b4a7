-- The bytes of a node, as they are written one after the other, and how many they are; how many numbers a piece has. Assumes nothing.
use mathlib.Core.Path.{◌≡◌, refl}
use mathlib.Core.Bool.{Bool, true, false, cond}
use mathlib.Core.List.{List, [], ◌∷◌, ◌++◌, append-nil}
use Prim.Native.Nat.{ℕ, suc, ◌+◌, ◌≤◌}
use native.Mathlib.Numerals.{add-one}
use native.Mathlib.Omega.{arith}
use lib.ListN.{length, set}
use lib.Seq.{sets}
use Rattle.piece.specs.declared.node.Datum.{Datum}
use Rattle.piece.specs.Kinds.{is_part}
use Rattle.tree.specs.Snapshot.{node_bytes}
use Rattle.walks.specs.Along.{part_number}

-- ---- bytes written one by one

module _ (l : List ℕ) (x : ℕ) where
  pub two-stored : (a b : ℕ) → set (set l x a) (x + 1) b ≡ sets l x (a ∷ b ∷ [])
  two-stored a b = rw (add-one x) refl

  pub four-stored : (a b c d : ℕ) → set (set (set (set l x a) (x + 1) b) (x + 2) c) (x + 3) d ≡ sets l x (a ∷ b ∷ c ∷ d ∷ [])
  four-stored a b c d =
      let e₂ : x + 2 ≡ suc (suc x) = omega arith in
      let e₃ : x + 3 ≡ suc (suc (suc x)) = omega arith in
      rw (add-one x, e₂, e₃) refl

-- ---- how many there are

pub length-node : (d : Datum) (r : List ℕ) → length (node_bytes d r) ≡ 14 + length r
unfolding node_bytes
length-node d r = omega arith

-- the bytes of a node before what a walk writes of its children, with nothing after them, and before those of its later siblings
pub node-before : (d : Datum) (k r : List ℕ) → (node_bytes d [] ++ (k ++ [])) ++ r ≡ node_bytes d (k ++ r)
unfolding node_bytes
node-before d k r = rw (append-nil k) refl

number-one : (b : Bool) (v : ℕ) → length (cond b (v ∷ []) []) ≤ 1
number-one true v = omega arith
number-one false v = omega arith

pub number-most : (d : Datum) → length (part_number d) ≤ 1
number-most d = number-one (is_part d.kind) d.number
