-- Rows whose places are numbered in tree order, as the opening's are, and those of the tables. Assumes nothing.
use mathlib.Core.Path.{◌≡◌}
use mathlib.Core.Logic.{inl, inr}
use Prim.Native.Nat.{ℕ, ◌+◌, ◌≤◌, ◌<◌}
use native.Mathlib.Omega.{arith}
use Rattle.piece.specs.Row.{Row, nil, grow}
use Rattle.tree.specs.Tree.{In, Distinct, count}

-- the places are n, n + 1 and so on, each piece before its children and these before its later siblings
abbrev pub Numbered : {A : Type 0} → ℕ → Row A → Type 0
Numbered n nil = Unit {0}
Numbered n (grow p d k r) = (p ≡ n) × Numbered (n + 1) k × Numbered (n + 1 + count k) r

pub numbered-in : {A : Type 0} (n i : ℕ) (w : Row A) → Numbered n w → In i w → (n ≤ i) × (i < n + count w)
numbered-in n i nil h g = absurd g
numbered-in n i (grow p d k r) h (inl e) = omega arith
numbered-in n i (grow p d k r) h (inr (inl g)) = let z = numbered-in (n + 1) i k h.1 g in omega arith
numbered-in n i (grow p d k r) h (inr (inr g)) = let z = numbered-in (n + 1 + count k) i r h.2 g in omega arith

pub numbered-distinct : {A : Type 0} (n : ℕ) (w : Row A) → Numbered n w → Distinct w
numbered-distinct n nil h = tt
numbered-distinct n (grow p d k r) h = record {
  not_below = λ g. let z = numbered-in (n + 1) p k h.1 g in omega arith;
  not_beside = λ g. let z = numbered-in (n + 1 + count k) p r h.2 g in omega arith;
  apart = λ i a b. let z = numbered-in (n + 1) i k h.1 a in let y = numbered-in (n + 1 + count k) i r h.2 b in omega arith;
  below = numbered-distinct (n + 1) k h.1;
  beside = numbered-distinct (n + 1 + count k) r h.2;
}
