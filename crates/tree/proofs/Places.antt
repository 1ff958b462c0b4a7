-- The places of a tree in which the pieces at one place gave way to another row (Kept): `f` says which row, and `g` what is left of the old one.
use mathlib.Core.Path.{◌≡◌, refl, sym}
use mathlib.Core.Bool.{Bool, true, false, cond}
use mathlib.Core.Logic.{◌⊎◌, inl, inr, ⊎_elim}
use Prim.Native.Nat.{ℕ}
use lib.Dec.{eqb}
use borrow.Author.Tests.{eqb-true, eqb-false, eq-eqb, ne_eqb}
use Rattle.piece.specs.declared.node.Datum.{Datum}
use Rattle.piece.specs.Row.{nil, grow}
use Rattle.tree.specs.Tree.{Tree, In, Distinct, change}
use Rattle.tree.proofs.Rows.{same?, in-eq}

-- what is left was there
module _ (x : ℕ) (g : Datum → Tree → Tree) (less : (i : ℕ) (d : Datum) (r : Tree) → In i (g d r) → In i r) where
  pub in-less : (i : ℕ) (t : Tree) → In i (change x g t) → In i t
  in-less i nil h = h
  in-less i (grow y d k r) h = go (eqb y x) h (in-less i k) (in-less i r)
    where
      go : (b : Bool) → In i (cond b (g d r) (grow y d (change x g k) (change x g r))) → (In i (change x g k) → In i k)
          → (In i (change x g r) → In i r) → In i (grow y d k r)
      go true h a b = inr (inr (less i d r h))
      go false (inl e) a b = inl e
      go false (inr (inl h)) a b = inr (inl (a h))
      go false (inr (inr h)) a b = inr (inr (b h))

  -- the place x itself is not among what is left
  pub gone : (t : Tree) → Distinct t → In x (change x g t) → ⊥
  gone nil u h = h
  gone (grow y d k r) u h = go (eqb y x) refl h (gone k u.below) (gone r u.beside)
    where
      go : (b : Bool) → eqb y x ≡ b → In x (cond b (g d r) (grow y d (change x g k) (change x g r)))
          → (In x (change x g k) → ⊥) → (In x (change x g r) → ⊥) → ⊥
      go true e h a b = u.not_beside (in-eq r (sym (eqb-true y x e)) (less x d r h))
      go false e (inl z) a b = eqb-false y x e (sym z)
      go false e (inr (inl h)) a b = a h
      go false e (inr (inr h)) a b = b h

-- a place of the new row is left of the old one, or is new
module _ (x : ℕ) (g f : Datum → Tree → Tree) (New : ℕ → Type 0)
    (split : (i : ℕ) (d : Datum) (r : Tree) → In i (f d r) → In i (g d r) ⊎ New i) where
  pub in-change : (i : ℕ) (t : Tree) → In i (change x f t) → In i (change x g t) ⊎ (New i × In x t)
  in-change i nil h = inl h
  in-change i (grow y d k r) h = go (eqb y x) refl h (in-change i k) (in-change i r)
    where
      go : (b : Bool) → eqb y x ≡ b → In i (cond b (f d r) (grow y d (change x f k) (change x f r)))
          → (In i (change x f k) → In i (change x g k) ⊎ (New i × In x k)) → (In i (change x f r) → In i (change x g r) ⊎ (New i × In x r))
          → In i (cond b (g d r) (grow y d (change x g k) (change x g r))) ⊎ (New i × In x (grow y d k r))
      go true e h a b = ⊎_elim inl (λ z. inr (z, inl (sym (eqb-true y x e)))) (split i d r h)
      go false e (inl z) a b = inl (inl z)
      go false e (inr (inl h)) a b = ⊎_elim (λ z. inl (inr (inl z))) (λ z. inr (z.0, inr (inl z.1))) (a h)
      go false e (inr (inr h)) a b = ⊎_elim (λ z. inl (inr (inr z))) (λ z. inr (z.0, inr (inr z.1))) (b h)

  pub distinct-change : ((i : ℕ) (d : Datum) (r : Tree) → In i (g d r) → In i r)
      → ((d : Datum) (r : Tree) → Distinct r → ((i : ℕ) → New i → In i (g d r) → ⊥) → Distinct (f d r))
      → (t : Tree) → Distinct t → ((i : ℕ) → New i → In i (change x g t) → ⊥) → Distinct (change x f t)
  distinct-change less tight nil u n = tt
  distinct-change less tight (grow y d k r) u n = go (same? y x) (distinct-change less tight k u.below) (distinct-change less tight r u.beside)
    where
      go : (y ≡ x) ⊎ (y ≡ x → ⊥) → (((i : ℕ) → New i → In i (change x g k) → ⊥) → Distinct (change x f k))
          → (((i : ℕ) → New i → In i (change x g r) → ⊥) → Distinct (change x f r)) → Distinct (change x f (grow y d k r))
      go (inl e) a b = rw (eq-eqb y x e) (tight d r u.beside (λ i z h. n i z (rw (eq-eqb y x e) h)))
      go (inr m) a b = rw (ne_eqb y x m) (record {
        not_below = λ h. ⊎_elim (λ z. u.not_below (in-less x g less y k z)) (λ z. new y z.0 (inl refl)) (in-change y k h);
        not_beside = λ h. ⊎_elim (λ z. u.not_beside (in-less x g less y r z)) (λ z. new y z.0 (inl refl)) (in-change y r h);
        apart = λ i h l. ⊎_elim
            (λ z. ⊎_elim (λ o. u.apart i (in-less x g less i k z) (in-less x g less i r o)) (λ o. new i o.0 (inr (inl z))) (in-change i r l))
            (λ z. ⊎_elim (λ o. new i z.0 (inr (inr o))) (λ o. u.apart x z.1 o.1) (in-change i r l))
            (in-change i k h);
        below = a (λ i z h. new i z (inr (inl h)));
        beside = b (λ i z h. new i z (inr (inr h)));
      })
        where
          new : (i : ℕ) → New i → In i (grow y d (change x g k) (change x g r)) → ⊥
          new i z h = n i z (rw (ne_eqb y x m) h)
