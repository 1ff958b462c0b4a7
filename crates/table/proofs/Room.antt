-- A row whose places are all different and below n has at most n pieces: each number below n is counted once at most.
use mathlib.Core.Path.{◌≡◌, refl, sym}
use mathlib.Core.Bool.{cond}
use mathlib.Core.Logic.{◌⊎◌, inl, inr}
use Prim.Native.Nat.{ℕ, zero, suc, ◌+◌, ◌<◌, ◌≤◌}
use native.Mathlib.Omega.{arith}
use lib.Dec.{eqb}
use borrow.Author.Tests.{eq-eqb, ne_eqb}
use Rattle.piece.specs.Row.{Row, nil, grow}
use Rattle.tree.specs.Tree.{In, Distinct, count}
use Rattle.tree.proofs.Rows.{same?, in-eq, in?}

module _ {A : Type 0} where
  -- how often a place is in a row
  abbrev times : ℕ → Row A → ℕ
  times i nil = 0
  times i (grow p d k r) = cond (eqb i p) 1 0 + (times i k + times i r)

  -- how often those below n are
  abbrev below : ℕ → Row A → ℕ
  below zero w = 0
  below (suc n) w = times n w + below n w

  never : (i : ℕ) (w : Row A) → (In i w → ⊥) → times i w ≡ 0
  never i nil n = refl
  never i (grow p d k r) n =
      rw (ne_eqb i p (λ e. n (inl e)), never i k (λ h. n (inr (inl h))), never i r (λ h. n (inr (inr h)))) refl

  once : (i : ℕ) (w : Row A) → Distinct w → times i w ≤ 1
  once i nil dis = omega arith
  once i (grow p d k r) dis = go (same? i p) (in? i k) (once i k dis.below) (once i r dis.beside)
    where
      go : (i ≡ p) ⊎ (i ≡ p → ⊥) → In i k ⊎ (In i k → ⊥) → times i k ≤ 1 → times i r ≤ 1 → times i (grow p d k r) ≤ 1
      go (inl e) c a b =
          rw (eq-eqb i p e, never i k (λ h. dis.not_below (in-eq k e h)), never i r (λ h. dis.not_beside (in-eq r e h))) (omega arith)
      go (inr n) (inl h) a b = rw (ne_eqb i p n, never i r (dis.apart i h)) (omega arith)
      go (inr n) (inr m) a b = rw (ne_eqb i p n, never i k m) (omega arith)

  below-most : (n : ℕ) (w : Row A) → Distinct w → below n w ≤ n
  below-most zero w dis = omega arith
  below-most (suc n) w dis = let ih = below-most n w dis in let o = once n w dis in omega arith

  below_none : (n : ℕ) (w : Row A) → ((i : ℕ) → In i w → ⊥) → below n w ≡ 0
  below_none zero w h = refl
  below_none (suc n) w h = let ih = below_none n w h in let e = never n w (h n) in omega arith

  module _ (p : ℕ) (d : A) (k r : Row A) where
    below-past : (n : ℕ) → n ≤ p → below n (grow p d k r) ≡ below n k + below n r
    below-past zero h = refl
    below-past (suc n) h =
        let ih = below-past n (omega arith) in
        rw (ne_eqb n p (λ e. omega arith)) (omega arith)

    below-grow : (n : ℕ) → p < n → below n (grow p d k r) ≡ 1 + (below n k + below n r)
    below-grow zero h = let no_place : ⊥ = omega arith in absurd no_place
    below-grow (suc n) h = go (same? n p) (below-grow n)
      where
        go : (n ≡ p) ⊎ (n ≡ p → ⊥) → (p < n → below n (grow p d k r) ≡ 1 + (below n k + below n r))
            → below (suc n) (grow p d k r) ≡ 1 + (below (suc n) k + below (suc n) r)
        go (inl e) ih = let o = below-past n (omega arith) in rw (eq-eqb n p e) (omega arith)
        go (inr m) ih = let o = ih (omega arith) in rw (ne_eqb n p m) (omega arith)

  below_all : (n : ℕ) (w : Row A) → ((i : ℕ) → In i w → i < n) → count w ≡ below n w
  below_all n nil h = sym (below_none n nil (λ i y. y))
  below_all n (grow p d k r) h =
      let a = below_all n k (λ i y. h i (inr (inl y))) in
      let b = below_all n r (λ i y. h i (inr (inr y))) in
      let c = below-grow p d k r n (h p (inl refl)) in
      omega arith

  pub room : (n : ℕ) (w : Row A) → Distinct w → ((i : ℕ) → In i w → i < n) → count w ≤ n
  room n w dis h = let a = below_all n w h in let b = below-most n w dis in omega arith
