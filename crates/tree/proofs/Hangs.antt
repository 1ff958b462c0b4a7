-- A row that is hung at the end of a piece's children: it is put behind them, and what is in the tree then. Assumes nothing.
use mathlib.Core.Path.{◌≡◌, refl, sym, ap}
use mathlib.Core.Bool.{Bool, true, false, cond}
use mathlib.Core.Logic.{◌⊎◌, inl, inr, ⊎_elim}
use Prim.Native.Nat.{ℕ}
use lib.Dec.{eqb}
use borrow.Author.Tests.{eq-eqb, ne_eqb}
use Rattle.piece.specs.declared.node.Datum.{Datum}
use Rattle.piece.specs.Row.{nil, grow}
use Rattle.tree.specs.Tree.{Tree, In, Distinct, after}
use Rattle.tree.specs.Steps.{hang, app, Kids}
use Rattle.tree.proofs.Rows.{same?, in-eq, in?, in_after, in-first, in-second, after-nil, after-assoc}
use Rattle.tree.proofs.Changes.{pass-absent, pass-after}
use Rattle.tree.proofs.Kids.{kids-in, kids_under, put, put-here, put-left, put_right, put_in, in-put, put-new}

module _ (q : ℕ) (b : Tree) where
  hang-pass : (p : ℕ) (d : Datum) (l r : Tree) → (p ≡ q → ⊥) → hang q b (grow p d l r) ≡ grow p d (hang q b l) (hang q b r)
  hang-pass p d l r n = rw (ne_eqb p q n) refl

  pub hang-absent : (w : Tree) → (In q w → ⊥) → hang q b w ≡ w
  hang-absent w n = pass-absent q (hang q b) refl hang-pass w n

  pub hang-after : (a c : Tree) → (In q a → ⊥) → hang q b (after a c) ≡ after a (hang q b c)
  hang-after a c n = pass-after q (hang q b) refl hang-pass a c n

  -- what is hung under q is put behind its children
  pub hang-put : (k w : Tree) → Distinct w → Kids q k w → hang q b w ≡ put q (after k b) w
  hang-put k nil dis h = refl
  hang-put k (grow p d l r) dis (inl e) = rw (put-here q (after k b) p d l r e.0, eq-eqb p q (sym e.0), e.1) refl
  hang-put k (grow p d l r) dis (inr (inl h)) =
      let j : In q l = kids-in q k l h in
      rw (put-left q (after k b) p d l r dis j, ne_eqb p q (λ z. dis.not_below (in-eq l (sym z) j)), hang-absent r (dis.apart q j))
      (ap (λ (z : Tree). grow p d z r) (hang-put k l dis.below h))
  hang-put k (grow p d l r) dis (inr (inr h)) =
      let j : In q r = kids-in q k r h in
      rw (put_right q (after k b) p d l r dis j, ne_eqb p q (λ z. dis.not_beside (in-eq r (sym z) j)), hang-absent l (λ y. dis.apart q y j))
      (ap (λ (z : Tree). grow p d l z) (hang-put k r dis.beside h))

  pub hang-of-put : (k w : Tree) → hang q b (put q k w) ≡ put q (after k b) w
  hang-of-put k nil = refl
  hang-of-put k (grow p d l r) = go (eqb p q) refl (hang-of-put k l) (hang-of-put k r)
    where
      go : (c : Bool) → eqb p q ≡ c → hang q b (put q k l) ≡ put q (after k b) l → hang q b (put q k r) ≡ put q (after k b) r
          → hang q b (cond c (grow p d k r) (grow p d (put q k l) (put q k r)))
          ≡ cond c (grow p d (after k b) r) (grow p d (put q (after k b) l) (put q (after k b) r))
      go true e hl hr = rw e refl
      go false e hl hr = rw (e, hl, hr) refl

  module _ (k w : Tree) (dis : Distinct w) (kids : Kids q k w) (i : ℕ) where
    -- what is in the tree then
    pub hang-in : In i (hang q b w) → In i b ⊎ In i w
    hang-in h =
        ⊎_elim (λ y. ⊎_elim (λ z. inr (kids_under q k i w kids z)) inl (in_after i k b y)) (λ y. inr y.0)
        (put_in q (after k b) k i w dis kids (rw (hang-put k w dis kids) at h))

    pub in-hang : In i w → In i (hang q b w)
    in-hang h =
        rw (hang-put k w dis kids)
        (⊎_elim (λ y. put-new q (after k b) k i w dis kids (in-first i k b y)) (λ y. in-put q (after k b) k i w dis kids h y) (in? i k))

    pub in-hung : In i b → In i (hang q b w)
    in-hung h = rw (hang-put k w dis kids) (put-new q (after k b) k i w dis kids (in-second i k b h))

-- nothing is hung under q
pub hang-nil : (q : ℕ) (w : Tree) → hang q nil w ≡ w
hang-nil q nil = refl
hang-nil q (grow p d k r) = go (eqb p q) (hang-nil q k) (hang-nil q r)
  where
    go : (b : Bool) → hang q nil k ≡ k → hang q nil r ≡ r
        → cond b (grow p d (after k nil) r) (grow p d (hang q nil k) (hang q nil r)) ≡ grow p d k r
    go true hk hr = rw (after-nil k) refl
    go false hk hr = rw (hk, hr) refl

-- a row is hung under q by its first piece as a leaf, the children of that under it, and the rest of the row
pub hang-row : (q p : ℕ) (d : Datum) (k r w : Tree) → (In p w → ⊥) → hang q r (hang p k (app q p d w)) ≡ hang q (grow p d k r) w
hang-row q p d k r nil n = refl
hang-row q p d k r (grow y e l s) n =
    go (same? y q) (hang-row q p d k r l (λ h. n (inr (inl h)))) (hang-row q p d k r s (λ h. n (inr (inr h))))
  where
    yp : y ≡ p → ⊥
    yp z = n (inl (sym z))

    leaf : Tree
    leaf = grow p d nil nil

    go : (y ≡ q) ⊎ (y ≡ q → ⊥) → hang q r (hang p k (app q p d l)) ≡ hang q (grow p d k r) l
        → hang q r (hang p k (app q p d s)) ≡ hang q (grow p d k r) s
        → hang q r (hang p k (app q p d (grow y e l s))) ≡ hang q (grow p d k r) (grow y e l s)
    go (inl z) hl hs =
        rw (
          eq-eqb y q z,
          ne_eqb y p yp,
          hang-after p k l leaf (λ h. n (inr (inl h))),
          hang-absent p k s (λ h. n (inr (inr h))),
          eq-eqb p p refl,
          eq-eqb y q z,
          after-assoc l (grow p d k nil) r,
        )
        refl
    go (inr m) hl hs = rw (ne_eqb y q m, ne_eqb y p yp, ne_eqb y q m, hl, hs) refl
