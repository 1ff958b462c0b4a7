-- Rows: places, appends and counts. What every other file of proofs/ leans on. Assumes nothing.
use mathlib.Core.Path.{◌≡◌, refl, ap, subst}
use mathlib.Core.Bool.{Bool, true, false}
use mathlib.Core.Logic.{◌⊎◌, inl, inr, ⊎_elim}
use Prim.Native.Nat.{ℕ, ◌+◌}
use native.Mathlib.Omega.{arith}
use lib.Dec.{eqb}
use borrow.Author.Tests.{eqb-true, eqb-false}
use Rattle.piece.specs.declared.node.Datum.{Datum}
use Rattle.piece.specs.Row.{Row, nil, grow}
use Rattle.tree.specs.Tree.{Tree, In, At, Distinct, after, count}

-- two places are the same or not
pub same? : (x y : ℕ) → (x ≡ y) ⊎ (x ≡ y → ⊥)
same? x y = go (eqb x y) refl
  where
    go : (b : Bool) → eqb x y ≡ b → (x ≡ y) ⊎ (x ≡ y → ⊥)
    go true e = inl (eqb-true x y e)
    go false e = inr (eqb-false x y e)

pub in-eq : {A : Type 0} {i j : ℕ} (w : Row A) → i ≡ j → In i w → In j w
in-eq w e h = subst (λ (z : ℕ). In z w) e h

pub in? : {A : Type 0} (i : ℕ) (w : Row A) → In i w ⊎ (In i w → ⊥)
in? i nil = inr (λ z. z)
in? i (grow p d k r) = pick (same? i p) (in? i k) (in? i r)
  where
    pick : (i ≡ p) ⊎ (i ≡ p → ⊥) → In i k ⊎ (In i k → ⊥) → In i r ⊎ (In i r → ⊥)
        → In i (grow p d k r) ⊎ (In i (grow p d k r) → ⊥)
    pick (inl e) b c = inl (inl e)
    pick (inr m) (inl h) c = inl (inr (inl h))
    pick (inr m) (inr l) (inl h) = inl (inr (inr h))
    pick (inr m) (inr l) (inr o) = inr (λ y. ⊎_elim m (λ z. ⊎_elim l o z) y)

pub at_in : (i : ℕ) (e : Datum) (t : Tree) → At i e t → In i t
at_in i e nil h = h
at_in i e (grow p d k r) (inl h) = inl h.0
at_in i e (grow p d k r) (inr (inl h)) = inr (inl (at_in i e k h))
at_in i e (grow p d k r) (inr (inr h)) = inr (inr (at_in i e r h))

-- some datum is at each place of a row
pub in-at : (i : ℕ) (w : Tree) → In i w → (e : Datum) × At i e w
in-at i nil h = absurd h
in-at i (grow p d k r) (inl e) = (d, inl (e, refl))
in-at i (grow p d k r) (inr (inl h)) = let g = in-at i k h in (g.0, inr (inl g.1))
in-at i (grow p d k r) (inr (inr h)) = let g = in-at i r h in (g.0, inr (inr g.1))

-- a place that is in no row below is where a piece goes through unchanged
pub after-nil : {A : Type 0} (a : Row A) → after a nil ≡ a
after-nil nil = refl
after-nil (grow p d k r) = ap (λ (z : Row _). grow p d k z) (after-nil r)

pub after-assoc : {A : Type 0} (a b c : Row A) → after (after a b) c ≡ after a (after b c)
after-assoc nil b c = refl
after-assoc (grow p d k r) b c = ap (λ (z : Row _). grow p d k z) (after-assoc r b c)

pub count-after : {A : Type 0} (a b : Row A) → count (after a b) ≡ count a + count b
count-after nil b = omega arith
count-after (grow p d k r) b = let ih = count-after r b in omega arith

pub in_after : {A : Type 0} (i : ℕ) (a b : Row A) → In i (after a b) → In i a ⊎ In i b
in_after i nil b h = inr h
in_after i (grow p d k r) b (inl e) = inl (inl e)
in_after i (grow p d k r) b (inr (inl h)) = inl (inr (inl h))
in_after i (grow p d k r) b (inr (inr h)) = ⊎_elim (λ g. inl (inr (inr g))) inr (in_after i r b h)

pub in-first : {A : Type 0} (i : ℕ) (a b : Row A) → In i a → In i (after a b)
in-first i nil b h = absurd h
in-first i (grow p d k r) b (inl e) = inl e
in-first i (grow p d k r) b (inr (inl h)) = inr (inl h)
in-first i (grow p d k r) b (inr (inr h)) = inr (inr (in-first i r b h))

pub in-second : {A : Type 0} (i : ℕ) (a b : Row A) → In i b → In i (after a b)
in-second i nil b h = h
in-second i (grow p d k r) b h = inr (inr (in-second i r b h))

pub distinct-one : {A : Type 0} (p : ℕ) (d : A) → Distinct (grow p d nil nil)
distinct-one p d = record { not_below = absurd; not_beside = absurd; apart = λ i h g. h; below = tt; beside = tt }

pub distinct-after : {A : Type 0} (a b : Row A) → Distinct a → Distinct b → ((i : ℕ) → In i a → In i b → ⊥)
    → Distinct (after a b)
distinct-after nil b da db n = db
distinct-after (grow p d k r) b da db n = record {
  not_below = da.not_below;
  not_beside = λ h. ⊎_elim da.not_beside (n p (inl refl)) (in_after p r b h);
  apart = λ i h g. ⊎_elim (da.apart i h) (n i (inr (inl h))) (in_after i r b g);
  below = da.below;
  beside = distinct-after r b da.beside db (λ i h g. n i (inr (inr h)) g);
}
