-- What a table that holds a row shows, place by place; that it still holds the row after changes at other places; and that it holds the row
-- with other children of one piece, if it holds those and the piece's links to them are right.
use mathlib.Core.Path.{◌≡◌, refl, sym, ap, ◌∙◌}
use mathlib.Core.List.{List}
use mathlib.Core.Bool.{Bool, true, false, cond}
use mathlib.Core.Logic.{◌⊎◌, inl, inr, ⊎_elim}
use Prim.Native.Nat.{ℕ, ◌<◌}
use native.Mathlib.Omega.{arith}
use lib.Dec.{eqb}
use Rattle.piece.specs.declared.node.Datum.{Datum}
use Rattle.piece.specs.Row.{nil, grow}
use Rattle.tree.specs.Tree.{Tree, In, Distinct, after}
use Rattle.tree.specs.Steps.{Kids}
use Rattle.tree.proofs.Rows.{in-eq}
use Rattle.tree.proofs.Kids.{kids-in, kids_under, put, put-here, put-left, put_right}
use Rattle.table.specs.declared.Node.{Node}
use Rattle.table.specs.Table.{mk, with_next, with_prev, at, head, last, Rep}

-- the last of a row is what comes before it, or in it; the head is what comes after it, or in it
pub last-cases : (pv : ℕ) (k : Tree) → (last pv k ≡ pv) ⊎ In (last pv k) k
last-cases pv nil = inl refl
last-cases pv (grow p d k r) = inr (⊎_elim inl (λ h. inr (inr h)) (last-cases p r))

pub head-cases : (nx : ℕ) (k : Tree) → (head nx k ≡ nx) ⊎ In (head nx k) k
head-cases nx nil = inl refl
head-cases nx (grow p d k r) = inr (inl refl)

pub last-after : (pv : ℕ) (a b : Tree) → last pv (after a b) ≡ last (last pv a) b
last-after pv nil b = refl
last-after pv (grow p d k r) b = last-after p r b

pub head-after : (nx : ℕ) (a b : Tree) → head nx (after a b) ≡ head (head nx b) a
head-after nx nil b = refl
head-after nx (grow p d k r) b = refl

module _ (q : ℕ) (k : Tree) where
  head-put : (nx : ℕ) (w : Tree) → head nx (put q k w) ≡ head nx w
  head-put nx nil = refl
  head-put nx (grow p d l r) = go (eqb p q)
    where
      go : (b : Bool) → head nx (cond b (grow p d k r) (grow p d (put q k l) (put q k r))) ≡ p
      go true = refl
      go false = refl

  last-put : (pv : ℕ) (w : Tree) → last pv (put q k w) ≡ last pv w
  last-put pv nil = refl
  last-put pv (grow p d l r) = go (eqb p q) (last-put p r)
    where
      go : (b : Bool) → last p (put q k r) ≡ last p r → last pv (cond b (grow p d k r) (grow p d (put q k l) (put q k r))) ≡ last p r
      go true ih = refl
      go false ih = ih

-- what a piece's place shows of its children
pub record Shows (limit : ℕ) (t : List Node) (q : ℕ) (k : Tree) : Type 0 where
  pub low : q < limit
  pub first : (at t q).first ≡ head limit k
  pub last-is : (at t q).last ≡ last limit k
  pub rep : Rep limit t q limit k

module _ (limit : ℕ) where
  pub bound : (t : List Node) (q pv i : ℕ) (w : Tree) → Rep limit t q pv w → In i w → i < limit
  bound t q pv i nil rep h = absurd h
  bound t q pv i (grow p d k r) rep (inl e) = rw e rep.0
  bound t q pv i (grow p d k r) rep (inr (inl h)) = bound t p limit i k rep.2 h
  bound t q pv i (grow p d k r) rep (inr (inr h)) = bound t q p i r rep.3 h

  -- the limit is no place
  pub limit-out : (t : List Node) (q pv : ℕ) (w : Tree) → Rep limit t q pv w → In limit w → ⊥
  limit-out t q pv w rep h = let b : limit < limit = bound t q pv limit w rep h in omega arith

  -- a piece with no first child has no child
  pub no-child : (t : List Node) (q pv : ℕ) (k : Tree) → Rep limit t q pv k → head limit k ≡ limit → k ≡ nil
  no-child t q pv nil rep e = refl
  no-child t q pv (grow p d k r) rep e = let b : p < limit = rep.0 in let z : ⊥ = omega arith in absurd z

  pub frame : (t u : List Node) (q pv : ℕ) (w : Tree) → ((i : ℕ) → In i w → at u i ≡ at t i) → Rep limit t q pv w → Rep limit u q pv w
  frame t u q pv nil h rep = tt
  frame t u q pv (grow p d k r) h rep = (
    rep.0,
    h p (inl refl) ∙ rep.1,
    frame t u p limit k (λ i x. h i (inr (inl x))) rep.2,
    frame t u q p r (λ i x. h i (inr (inr x))) rep.3,
  )

  pub shows : (t : List Node) (v pv q : ℕ) (k w : Tree) → Rep limit t v pv w → Kids q k w → Shows limit t q k
  shows t v pv q k nil rep h = absurd h
  shows t v pv q k (grow p d l r) rep (inl e) =
      rw (e.0, e.1)
      (record { low = rep.0; first = ap (λ (n : Node). n.first) rep.1; last-is = ap (λ (n : Node). n.last) rep.1; rep = rep.2 })
  shows t v pv q k (grow p d l r) rep (inr (inl h)) = shows t p limit q k l rep.2 h
  shows t v pv q k (grow p d l r) rep (inr (inr h)) = shows t v p q k r rep.3 h

  -- a row from one of its pieces on, and what stands at that piece's place
  pub row_from : (t : List Node) (q pv : ℕ) (a b : Tree) → Rep limit t q pv (after a b) → Rep limit t q (last pv a) b
  row_from t q pv nil b rep = rep
  row_from t q pv (grow p e k r) b rep = row_from t q p r b rep.3

  pub piece-at : (t : List Node) (q pv x : ℕ) (a : Tree) (d : Datum) (l b : Tree) → Rep limit t q pv (after a (grow x d l b))
      → at t x ≡ mk d q (last pv a) (head limit l) (last limit l) (head limit b)
  piece-at t q pv x a d l b rep = (row_from t q pv a (grow x d l b) rep).1

  -- A part of a row of siblings: nx comes after it.
  abbrev pub Part : List Node → ℕ → ℕ → ℕ → Tree → Type 0
  Part t q pv nx nil = Unit {0}
  Part t q pv nx (grow p d k r) =
      (p < limit)
      × (at t p ≡ mk d q pv (head limit k) (last limit k) (head nx r))
      × Rep limit t p limit k
      × Part t q p nx r

  module _ (t : List Node) (q : ℕ) where
    pub rep-part : (pv : ℕ) (w : Tree) → Rep limit t q pv w → Part t q pv limit w
    rep-part pv nil rep = tt
    rep-part pv (grow p d k r) rep = (rep.0, rep.1, rep.2, rep-part p r rep.3)

    pub part-rep : (pv : ℕ) (w : Tree) → Part t q pv limit w → Rep limit t q pv w
    part-rep pv nil s = tt
    part-rep pv (grow p d k r) s = (s.0, s.1, s.2, part-rep p r s.3)

    pub split : (pv nx : ℕ) (a b : Tree) → Part t q pv nx (after a b) → Part t q pv (head nx b) a × Part t q (last pv a) nx b
    split pv nx nil b s = (tt, s)
    split pv nx (grow p d k r) b s =
        let g = split p nx r b s.3 in ((s.0, rw (head-after nx r b) at s.1, s.2, g.0), g.1)

    pub joined : (pv nx : ℕ) (a b : Tree) → Part t q pv (head nx b) a → Part t q (last pv a) nx b → Part t q pv nx (after a b)
    joined pv nx nil b sa sb = sb
    joined pv nx (grow p d k r) b sa sb = (sa.0, rw (head-after nx r b) sa.1, sa.2, joined p nx r b sa.3 sb)

  module _ (t u : List Node) (q : ℕ) where
    pub part-frame : (pv nx : ℕ) (w : Tree) → ((i : ℕ) → In i w → at u i ≡ at t i) → Part t q pv nx w → Part u q pv nx w
    part-frame pv nx nil h s = tt
    part-frame pv nx (grow p d k r) h s = (
      s.0,
      h p (inl refl) ∙ s.1,
      frame t u p limit k (λ i x. h i (inr (inl x))) s.2,
      part-frame p nx r (λ i x. h i (inr (inr x))) s.3,
    )

    -- something else comes after the part
    pub renext : (pv nx n : ℕ) (k : Tree) → Distinct k → Part t q pv nx k → ((i : ℕ) → In i k → (i ≡ last pv k → ⊥) → at u i ≡ at t i)
        → (In (last pv k) k → at u (last pv k) ≡ with_next (at t (last pv k)) n) → Part u q pv n k
    renext pv nx n nil dis s same tied = tt
    renext pv nx n (grow p d k nil) dis s same tied = (
      s.0,
      tied (inl refl) ∙ ap (λ (m : Node). with_next m n) s.1,
      frame t u p limit k (λ i h. same i (inr (inl h)) (λ e. dis.not_below (in-eq k e h))) s.2,
      tt,
    )
    renext pv nx n (grow p d k (grow p₁ d₁ k₁ r₁)) dis s same tied = (
      s.0,
      same p (inl refl) (λ e. dis.not_beside (in-eq r (sym e) end)) ∙ s.1,
      frame t u p limit k (λ i h. same i (inr (inl h)) (λ e. dis.apart i h (in-eq r (sym e) end))) s.2,
      renext p nx n (grow p₁ d₁ k₁ r₁) dis.beside s.3 (λ i h m. same i (inr (inr h)) m) (λ h. tied (inr (inr h))),
    )
      where
        r : Tree
        r = grow p₁ d₁ k₁ r₁

        end : In (last p r) r
        end = ⊎_elim inl (λ h. inr (inr h)) (last-cases p₁ r₁)

    -- something else comes before it
    pub reprev : (pv nx n : ℕ) (k : Tree) → Distinct k → Part t q pv nx k → ((i : ℕ) → In i k → (i ≡ head limit k → ⊥) → at u i ≡ at t i)
        → (In (head limit k) k → at u (head limit k) ≡ with_prev (at t (head limit k)) n) → Part u q n nx k
    reprev pv nx n nil dis s same tied = tt
    reprev pv nx n (grow p d k r) dis s same tied = (
      s.0,
      tied (inl refl) ∙ ap (λ (m : Node). with_prev m n) s.1,
      frame t u p limit k (λ i h. same i (inr (inl h)) (λ e. dis.not_below (in-eq k e h))) s.2,
      part-frame p nx r (λ i h. same i (inr (inr h)) (λ e. dis.not_beside (in-eq r e h))) s.3,
    )

  -- other children of q
  module _ (t u : List Node) (q : ℕ) (m k : Tree) where
    pub rep-put : (v pv : ℕ) (w : Tree) → Rep limit t v pv w → Distinct w → Kids q m w
        → ((i : ℕ) → In i w → (i ≡ q → ⊥) → (In i m → ⊥) → at u i ≡ at t i)
        → at u q ≡ mk (at t q).datum (at t q).parent (at t q).prev (head limit k) (last limit k) (at t q).next
        → Rep limit u q limit k → Rep limit u v pv (put q k w)
    rep-put v pv nil rep dis h same entry new = tt
    rep-put v pv (grow p d l r) rep dis (inl e) same entry new =
        rw (put-here q k p d l r e.0) (
          rep.0,
          rw (e.0, rep.1) at entry,
          rw e.0 at new,
          frame t u v p r
              (λ i y. same i (inr (inr y)) (λ z. dis.not_beside (in-eq r (z ∙ e.0) y)) (λ z. dis.apart i (rw e.1 at z) y)) rep.3,
        )
    rep-put v pv (grow p d l r) rep dis (inr (inl h)) same entry new =
        let j : In q l = kids-in q m l h in
        rw (put-left q k p d l r dis j) (
          rep.0,
          rw (head-put q k limit l, last-put q k limit l)
              (same p (inl refl) (λ z. dis.not_below (in-eq l (sym z) j)) (λ z. dis.not_below (kids_under q m p l h z)) ∙ rep.1),
          rep-put p limit l rep.2 dis.below h (λ i y. same i (inr (inl y))) entry new,
          frame t u v p r
              (λ i y. same i (inr (inr y)) (λ z. dis.apart q j (in-eq r z y)) (λ z. dis.apart i (kids_under q m i l h z) y)) rep.3,
        )
    rep-put v pv (grow p d l r) rep dis (inr (inr h)) same entry new =
        let j : In q r = kids-in q m r h in
        rw (put_right q k p d l r dis j) (
          rep.0,
          rw (head-put q k limit r)
              (same p (inl refl) (λ z. dis.not_beside (in-eq r (sym z) j)) (λ z. dis.not_beside (kids_under q m p r h z)) ∙ rep.1),
          frame t u p limit l
              (λ i y. same i (inr (inl y)) (λ z. dis.apart q (in-eq l z y) j) (λ z. dis.apart i y (kids_under q m i r h z))) rep.2,
          rep-put v p r rep.3 dis.beside h (λ i y. same i (inr (inr y))) entry new,
        )
