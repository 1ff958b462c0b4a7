-- The children of one piece. A step on trees that changes the tree around one piece puts other children in the place of its parent's:
-- what is in the tree then, and that no place is twice in it.
use mathlib.Core.Path.{◌≡◌, refl, sym, ap, ◌∙◌, subst}
use mathlib.Core.Bool.{Bool, true, false, cond}
use mathlib.Core.Logic.{◌⊎◌, inl, inr, ⊎_elim}
use Prim.Native.Nat.{ℕ, ◌+◌, ◌<◌}
use native.Mathlib.Omega.{arith}
use lib.Dec.{eqb}
use borrow.Author.Tests.{eq-eqb, ne_eqb}
use Rattle.piece.specs.declared.node.Datum.{Datum}
use Rattle.piece.specs.Row.{nil, grow}
use Rattle.tree.specs.Tree.{Tree, In, At, Distinct, after, count, change}
use Rattle.tree.specs.Steps.{Rooted, Kids}
use Rattle.tree.proofs.Rows.{in-eq, in-first, in-second}
use Rattle.tree.proofs.Changes.{pass-absent, pass-after, change-pass}

pub kids-of : (q : ℕ) (w : Tree) → In q w → (k : Tree) × Kids q k w
kids-of q nil h = absurd h
kids-of q (grow p d l r) (inl e) = (l, inl (e, refl))
kids-of q (grow p d l r) (inr (inl h)) = let g = kids-of q l h in (g.0, inr (inl g.1))
kids-of q (grow p d l r) (inr (inr h)) = let g = kids-of q r h in (g.0, inr (inr g.1))

module _ (q : ℕ) (k : Tree) where
  pub kids-in : (w : Tree) → Kids q k w → In q w
  kids-in nil h = h
  kids-in (grow p d l r) (inl e) = inl e.0
  kids-in (grow p d l r) (inr (inl h)) = inr (inl (kids-in l h))
  kids-in (grow p d l r) (inr (inr h)) = inr (inr (kids-in r h))

  pub kids_under : (i : ℕ) (w : Tree) → Kids q k w → In i k → In i w
  kids_under i nil h g = h
  kids_under i (grow p d l r) (inl e) g = inr (inl (rw e.1 at g))
  kids_under i (grow p d l r) (inr (inl h)) g = inr (inl (kids_under i l h g))
  kids_under i (grow p d l r) (inr (inr h)) g = inr (inr (kids_under i r h g))

  pub kids-distinct : (w : Tree) → Distinct w → Kids q k w → Distinct k
  kids-distinct nil dis h = absurd h
  kids-distinct (grow p d l r) dis (inl e) = rw e.1 dis.below
  kids-distinct (grow p d l r) dis (inr (inl h)) = kids-distinct l dis.below h
  kids-distinct (grow p d l r) dis (inr (inr h)) = kids-distinct r dis.beside h

  -- a piece is not below itself
  pub kids-self : (w : Tree) → Distinct w → Kids q k w → In q k → ⊥
  kids-self nil dis h g = h
  kids-self (grow p d l r) dis (inl e) g = dis.not_below (in-eq l e.0 (rw e.1 at g))
  kids-self (grow p d l r) dis (inr (inl h)) g = kids-self l dis.below h g
  kids-self (grow p d l r) dis (inr (inr h)) g = kids-self r dis.beside h g

  -- what is a piece of the children is a piece of the tree
  pub kids-kids : (x : ℕ) (l w : Tree) → Kids q k w → Kids x l k → Kids x l w
  kids-kids x l nil h g = absurd h
  kids-kids x l (grow p d m r) (inl e) g = inr (inl (subst (λ (z : Tree). Kids x l z) e.1 g))
  kids-kids x l (grow p d m r) (inr (inl h)) g = inr (inl (kids-kids x l m h g))
  kids-kids x l (grow p d m r) (inr (inr h)) g = inr (inr (kids-kids x l r h g))

  pub kids-count : (w : Tree) → Kids q k w → count k < count w
  kids-count nil h = absurd h
  kids-count (grow p d l r) (inl e) = rw e.1 (omega arith)
  kids-count (grow p d l r) (inr (inl h)) = let ih = kids-count l h in omega arith
  kids-count (grow p d l r) (inr (inr h)) = let ih = kids-count r h in omega arith

pub kids-row : (x : ℕ) (a : Tree) (d : Datum) (l b : Tree) → Kids x l (after a (grow x d l b))
kids-row x nil d l b = inl (refl, refl)
kids-row x (grow p e k r) d l b = inr (inr (kids-row x r d l b))

-- what is at a place of the children is there in the tree
pub kids-at : (q : ℕ) (m : Tree) (i : ℕ) (e : Datum) (w : Tree) → Kids q m w → At i e m → At i e w
kids-at q m i e nil h y = absurd h
kids-at q m i e (grow p d l r) (inl g) y = inr (inl (rw g.1 at y))
kids-at q m i e (grow p d l r) (inr (inl h)) y = inr (inl (kids-at q m i e l h y))
kids-at q m i e (grow p d l r) (inr (inr h)) y = inr (inr (kids-at q m i e r h y))

-- no place of a row is in another that comes after it
pub after-apart : (a b : Tree) → Distinct (after a b) → (i : ℕ) → In i a → In i b → ⊥
after-apart nil b dis i h g = h
after-apart (grow p d k r) b dis i (inl e) g = dis.not_beside (in-eq (after r b) e (in-second i r b g))
after-apart (grow p d k r) b dis i (inr (inl h)) g = dis.apart i h (in-second i r b g)
after-apart (grow p d k r) b dis i (inr (inr h)) g = after-apart r b dis.beside i h g

pub after_first : (a b : Tree) → Distinct (after a b) → Distinct a
after_first nil b dis = tt
after_first (grow p d k r) b dis = record {
  not_below = dis.not_below;
  not_beside = λ h. dis.not_beside (in-first p r b h);
  apart = λ i h g. dis.apart i h (in-first i r b g);
  below = dis.below;
  beside = after_first r b dis.beside;
}

pub after-second : (a b : Tree) → Distinct (after a b) → Distinct b
after-second nil b dis = dis
after-second (grow p d k r) b dis = after-second r b dis.beside

-- Where a piece stands: below its parent, after some siblings and before others.
pub record Spot (x : ℕ) (w : Tree) : Type 0 where
  pub parent : ℕ
  pub before : Tree
  pub datum : Datum
  pub below : Tree
  pub behind : Tree
  pub kids : Kids parent (after before (grow x datum below behind)) w

module _ (x : ℕ) where
  -- x is in the row itself
  abbrev InRow : Tree → Type 0
  InRow w = (a : Tree) × (d : Datum) × (l : Tree) × (b : Tree) × (w ≡ after a (grow x d l b))

  module _ (p : ℕ) (d : Datum) (k r : Tree) where
    spot-at : (v w : Tree) → ((q : ℕ) (m : Tree) → Kids q m v → Kids q m w) → Spot x v → Spot x w
    spot-at v w f s =
        record {
          parent = s.parent;
          before = s.before;
          datum = s.datum;
          below = s.below;
          behind = s.behind;
          kids = f s.parent (after s.before (grow x s.datum s.below s.behind)) s.kids;
        }

    spot-under : InRow k ⊎ Spot x k → Spot x (grow p d k r)
    spot-under (inl g) =
        record { parent = p; before = g.0; datum = g.1; below = g.2; behind = g.3; kids = inl (refl, sym g.4) }
    spot-under (inr s) = spot-at k (grow p d k r) (λ q m h. inr (inl h)) s

    spot-later : InRow r ⊎ Spot x r → InRow (grow p d k r) ⊎ Spot x (grow p d k r)
    spot-later (inl g) = inl (grow p d k g.0, g.1, g.2, g.3, ap (λ (z : Tree). grow p d k z) g.4)
    spot-later (inr s) = inr (spot-at r (grow p d k r) (λ q m h. inr (inr h)) s)

  spot-or : (w : Tree) → In x w → InRow w ⊎ Spot x w
  spot-or nil h = absurd h
  spot-or (grow p d k r) (inl e) = inl (nil, d, k, r, ap (λ (z : ℕ). grow z d k r) (sym e))
  spot-or (grow p d k r) (inr (inl h)) = inr (spot-under p d k r (spot-or k h))
  spot-or (grow p d k r) (inr (inr h)) = spot-later p d k r (spot-or r h)

  -- below the top, every piece has a parent
  spot : (p : ℕ) (d : Datum) (k r : Tree) → In x k → Spot x (grow p d k r)
  spot p d k r h = spot-under p d k r (spot-or k h)

  pub spot_in : (w : Tree) → Rooted w → In x w → (x ≡ 0 → ⊥) → Spot x w
  spot_in nil ro h n = absurd h
  spot_in (grow p d k r) ro (inl e) n = absurd (n (e ∙ ro.0))
  spot_in (grow p d k r) ro (inr (inl h)) n = spot p d k r h
  spot_in (grow p d k r) ro (inr (inr h)) n = absurd (rw ro.1 at h)

pub spot-kids : (x : ℕ) (w : Tree) (s : Spot x w) → Kids x s.below w
spot-kids x w s =
    kids-kids s.parent (after s.before (grow x s.datum s.below s.behind)) x s.below w s.kids
    (kids-row x s.before s.datum s.below s.behind)

-- the children of q are k in the place of what they were
abbrev pub put : ℕ → Tree → Tree → Tree
put q k nil = nil
put q k (grow p d l r) = cond (eqb p q) (grow p d k r) (grow p d (put q k l) (put q k r))

module _ (q : ℕ) (k : Tree) where
  put-absent : (w : Tree) → (In q w → ⊥) → put q k w ≡ w
  put-absent w n = pass-absent q (put q k) refl (λ p d l r m. rw (ne_eqb p q m) refl) w n

  module _ (p : ℕ) (d : Datum) (l r : Tree) where
    pub put-here : q ≡ p → put q k (grow p d l r) ≡ grow p d k r
    put-here e = rw (eq-eqb p q (sym e)) refl

    pub put-left : Distinct (grow p d l r) → In q l → put q k (grow p d l r) ≡ grow p d (put q k l) r
    put-left dis h = rw (ne_eqb p q (λ e. dis.not_below (in-eq l (sym e) h)), put-absent r (dis.apart q h)) refl

    pub put_right : Distinct (grow p d l r) → In q r → put q k (grow p d l r) ≡ grow p d l (put q k r)
    put_right dis h = rw (ne_eqb p q (λ e. dis.not_beside (in-eq r (sym e) h)), put-absent l (λ g. dis.apart q g h)) refl

  -- what is in it: the new children, and the places that were not below q
  module _ (m : Tree) (i : ℕ) where
    pub put_in : (w : Tree) → Distinct w → Kids q m w → In i (put q k w) → In i k ⊎ (In i w × (In i m → ⊥))
    put_in nil dis h g = absurd h
    put_in (grow p d l r) dis (inl e) g = go (rw (put-here p d l r e.0) at g)
      where
        go : In i (grow p d k r) → In i k ⊎ (In i (grow p d l r) × (In i m → ⊥))
        go (inl z) = inr (inl z, λ y. dis.not_below (in-eq l z (rw e.1 at y)))
        go (inr (inl z)) = inl z
        go (inr (inr z)) = inr (inr (inr z), λ y. dis.apart i (rw e.1 at y) z)
    put_in (grow p d l r) dis (inr (inl h)) g = go (rw (put-left p d l r dis (kids-in q m l h)) at g) (put_in l dis.below h)
      where
        under : In i m → In i l
        under y = kids_under q m i l h y

        go : In i (grow p d (put q k l) r) → (In i (put q k l) → In i k ⊎ (In i l × (In i m → ⊥))) → In i k ⊎ (In i (grow p d l r) × (In i m → ⊥))
        go (inl z) ih = inr (inl z, λ y. dis.not_below (in-eq l z (under y)))
        go (inr (inl z)) ih = ⊎_elim inl (λ y. inr (inr (inl y.0), y.1)) (ih z)
        go (inr (inr z)) ih = inr (inr (inr z), λ y. dis.apart i (under y) z)
    put_in (grow p d l r) dis (inr (inr h)) g = go (rw (put_right p d l r dis (kids-in q m r h)) at g) (put_in r dis.beside h)
      where
        under : In i m → In i r
        under y = kids_under q m i r h y

        go : In i (grow p d l (put q k r)) → (In i (put q k r) → In i k ⊎ (In i r × (In i m → ⊥))) → In i k ⊎ (In i (grow p d l r) × (In i m → ⊥))
        go (inl z) ih = inr (inl z, λ y. dis.not_beside (in-eq r z (under y)))
        go (inr (inl z)) ih = inr (inr (inl z), λ y. dis.apart i z (under y))
        go (inr (inr z)) ih = ⊎_elim inl (λ y. inr (inr (inr y.0), y.1)) (ih z)

    pub in-put : (w : Tree) → Distinct w → Kids q m w → In i w → (In i m → ⊥) → In i (put q k w)
    in-put nil dis h g n = h
    in-put (grow p d l r) dis (inl e) g n =
        rw (put-here p d l r e.0) (⊎_elim inl (λ z. ⊎_elim (λ y. absurd (n (rw e.1 y))) (λ y. inr (inr y)) z) g)
    in-put (grow p d l r) dis (inr (inl h)) g n =
        rw (put-left p d l r dis (kids-in q m l h))
        (⊎_elim inl (λ z. ⊎_elim (λ y. inr (inl (in-put l dis.below h y n))) (λ y. inr (inr y)) z) g)
    in-put (grow p d l r) dis (inr (inr h)) g n =
        rw (put_right p d l r dis (kids-in q m r h))
        (⊎_elim inl (λ z. ⊎_elim (λ y. inr (inl y)) (λ y. inr (inr (in-put r dis.beside h y n))) z) g)

  module _ (m : Tree) where
    pub put-kids : (w : Tree) → Distinct w → Kids q m w → Kids q k (put q k w)
    put-kids nil dis h = h
    put-kids (grow p d l r) dis (inl e) = rw (put-here p d l r e.0) (inl (e.0, refl))
    put-kids (grow p d l r) dis (inr (inl h)) = rw (put-left p d l r dis (kids-in q m l h)) (inr (inl (put-kids l dis.below h)))
    put-kids (grow p d l r) dis (inr (inr h)) = rw (put_right p d l r dis (kids-in q m r h)) (inr (inr (put-kids r dis.beside h)))

    pub put-new : (i : ℕ) (w : Tree) → Distinct w → Kids q m w → In i k → In i (put q k w)
    put-new i w dis h g = kids_under q k i (put q k w) (put-kids w dis h) g

    -- the new children are at places of their own, or at those of the old ones
    pub put-distinct : (w : Tree) → Distinct w → Kids q m w → Distinct k → ((i : ℕ) → In i k → In i w → In i m) → Distinct (put q k w)
    put-distinct nil dis h dk n = absurd h
    put-distinct (grow p d l r) dis (inl e) dk n =
        rw (put-here p d l r e.0) (record {
          not_below = λ y. dis.not_below (rw e.1 at (n p y (inl refl)));
          not_beside = dis.not_beside;
          apart = λ i y z. dis.apart i (rw e.1 at (n i y (inr (inr z)))) z;
          below = dk;
          beside = dis.beside;
        })
    put-distinct (grow p d l r) dis (inr (inl h)) dk n =
        rw (put-left p d l r dis (kids-in q m l h)) (record {
          not_below = λ y. ⊎_elim (λ z. dis.not_below (kids_under q m p l h (n p z (inl refl)))) (λ z. dis.not_below z.0) (put_in m p l dis.below h y);
          not_beside = dis.not_beside;
          apart = λ i y z. ⊎_elim (λ v. dis.apart i (kids_under q m i l h (n i v (inr (inr z)))) z) (λ v. dis.apart i v.0 z)
              (put_in m i l dis.below h y);
          below = put-distinct l dis.below h dk (λ i y z. n i y (inr (inl z)));
          beside = dis.beside;
        })
    put-distinct (grow p d l r) dis (inr (inr h)) dk n =
        rw (put_right p d l r dis (kids-in q m r h)) (record {
          not_below = dis.not_below;
          not_beside = λ y. ⊎_elim (λ z. dis.not_beside (kids_under q m p r h (n p z (inl refl)))) (λ z. dis.not_beside z.0)
              (put_in m p r dis.beside h y);
          apart = λ i y z. ⊎_elim (λ v. dis.apart i y (kids_under q m i r h (n i v (inr (inl y))))) (λ v. dis.apart i y v.0)
              (put_in m i r dis.beside h z);
          below = dis.below;
          beside = put-distinct r dis.beside h dk (λ i y z. n i y (inr (inr z)));
        })

    -- the new children are counted for the old ones
    pub put_count : (w : Tree) → Distinct w → Kids q m w → count (put q k w) + count m ≡ count w + count k
    put_count nil dis h = absurd h
    put_count (grow p d l r) dis (inl e) = rw (put-here p d l r e.0, e.1) (omega arith)
    put_count (grow p d l r) dis (inr (inl h)) =
        let ih = put_count l dis.below h in rw (put-left p d l r dis (kids-in q m l h)) (omega arith)
    put_count (grow p d l r) dis (inr (inr h)) =
        let ih = put_count r dis.beside h in rw (put_right p d l r dis (kids-in q m r h)) (omega arith)

    pub put-put : (w : Tree) → put q k (put q m w) ≡ put q k w
    put-put nil = refl
    put-put (grow p d l r) = go (eqb p q) refl (put-put l) (put-put r)
      where
        go : (b : Bool) → eqb p q ≡ b → put q k (put q m l) ≡ put q k l → put q k (put q m r) ≡ put q k r
            → put q k (cond b (grow p d m r) (grow p d (put q m l) (put q m r))) ≡ cond b (grow p d k r) (grow p d (put q k l) (put q k r))
        go true e hl hr = rw e refl
        go false e hl hr = rw (e, hl, hr) refl

  pub put_same : (w : Tree) → Distinct w → Kids q k w → put q k w ≡ w
  put_same nil dis h = refl
  put_same (grow p d l r) dis (inl e) = put-here p d l r e.0 ∙ ap (λ (z : Tree). grow p d z r) e.1
  put_same (grow p d l r) dis (inr (inl h)) = put-left p d l r dis (kids-in q k l h) ∙ ap (λ (z : Tree). grow p d z r) (put_same l dis.below h)
  put_same (grow p d l r) dis (inr (inr h)) = put_right p d l r dis (kids-in q k r h) ∙ ap (λ (z : Tree). grow p d l z) (put_same r dis.beside h)

-- A step that looks for the place x (Changes) does what it does to the row of x and leaves the rest of the tree.
module _ (x : ℕ) (g : Tree → Tree) (end : g nil ≡ nil)
    (pass : (p : ℕ) (d : Datum) (k r : Tree) → (p ≡ x → ⊥) → g (grow p d k r) ≡ grow p d (g k) (g r)) where
  pub pass-put : (q : ℕ) (k w : Tree) → Distinct w → Kids q k w → In x k → g w ≡ put q (g k) w
  pass-put q k nil dis h i = absurd h
  pass-put q k (grow p d l r) dis (inl e) i =
      let j : In x l = rw e.1 at i in
      rw (put-here q (g k) p d l r e.0, pass p d l r (λ z. dis.not_below (in-eq l (sym z) j)), pass-absent x g end pass r (dis.apart x j), e.1) refl
  pass-put q k (grow p d l r) dis (inr (inl h)) i =
      let j : In x l = kids_under q k x l h i in
      let n : p ≡ x → ⊥ = (λ z. dis.not_below (in-eq l (sym z) j)) in
      rw (put-left q (g k) p d l r dis (kids-in q k l h), pass p d l r n, pass-absent x g end pass r (dis.apart x j))
      (ap (λ (z : Tree). grow p d z r) (pass-put q k l dis.below h i))
  pass-put q k (grow p d l r) dis (inr (inr h)) i =
      let j : In x r = kids_under q k x r h i in
      let n : p ≡ x → ⊥ = (λ z. dis.not_beside (in-eq r (sym z) j)) in
      rw (put_right q (g k) p d l r dis (kids-in q k r h), pass p d l r n, pass-absent x g end pass l (λ y. dis.apart x y j))
      (ap (λ (z : Tree). grow p d l z) (pass-put q k r dis.beside h i))

  -- of the row in which x stands, after a, the part from x on is changed
  pub pass-piece : (q : ℕ) (a : Tree) (d : Datum) (l b w : Tree) → Distinct w → Kids q (after a (grow x d l b)) w
      → g w ≡ put q (after a (g (grow x d l b))) w
  pass-piece q a d l b w dis kids =
      let m = after a (grow x d l b) in
      pass-put q m w dis kids (in-second x a (grow x d l b) (inl refl))
      ∙ ap (λ (z : Tree). put q z w)
      (pass-after x g end pass a (grow x d l b) (λ i. after-apart a (grow x d l b) (kids-distinct q m w dis kids) x i (inl refl)))

-- so a change of the piece x puts other children in the place of its parent's
pub change-put : (x : ℕ) (f : Datum → Tree → Tree) (q : ℕ) (a : Tree) (d : Datum) (l b w : Tree) → Distinct w → Kids q (after a (grow x d l b)) w
    → change x f w ≡ put q (after a (f d b)) w
change-put x f q a d l b w dis kids =
    rw (pass-piece x (change x f) refl (change-pass x f) q a d l b w dis kids, eq-eqb x x refl) refl
