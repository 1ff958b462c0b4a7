-- What a deed at one piece is to the others: a piece that is not inside it and not under the same parent stays; what is inside a piece that stays was inside it
-- before; and a piece that it is not inside keeps all that is below it. It rests on the laws of a change (Changes), of parents (Parents) and of what stands
-- beside a removed piece (Beside). Assumes nothing.
use mathlib.Core.Path.{◌≡◌, refl, sym, ◌∙◌}
use mathlib.Core.Bool.{Bool, true, false, cond, ◌&&◌}
use mathlib.Core.Logic.{◌⊎◌, inl, inr, ⊎_elim}
use Prim.Native.Nat.{ℕ}
use lib.Dec.{eqb}
use borrow.Author.Tests.{eq-eqb, ne_eqb}
use Rattle.piece.specs.declared.node.Datum.{Datum}
use Rattle.piece.specs.declared.settings.Settings.{Settings}
use Rattle.piece.specs.Row.{nil, grow}
use Rattle.piece.specs.Kinds.{is_free}
use Rattle.tree.specs.Tree.{Tree, In, At, Inside, Distinct, after, is_nil, change}
use Rattle.tree.specs.Sound.{Children, Topped}
use Rattle.tree.specs.Booking.{Booking, block, book, booked_row}
use Rattle.tree.specs.Removal.{without_last, settled, cleared, subtree}
use Rattle.tree.specs.Family.{parent_in, parent_of}
use Rattle.tree.specs.Apart.{Clear}
use Rattle.tree.specs.AtOnce.{Deed, books, takes, does, Spares}
use Rattle.tree.proofs.Rows.{same?, in-eq, at_in, in_after}
use Rattle.tree.proofs.Kept.{Where, Alone, free-kind}
use Rattle.tree.proofs.Changes.{absent}
use Rattle.tree.proofs.RemoveKept.{in_left, settled-in}
use Rattle.tree.proofs.Goes.{subtree-absent}
use Rattle.tree.proofs.Family.{in-holds, absent-holds}
use Rattle.tree.proofs.Bookings.{block-clear}
use Rattle.tree.proofs.Beside.{inside-outer}

-- ---- what is neither inside the piece that is taken out nor under the same parent stays

module _ (settings : Settings) (x i : ℕ) (e : Datum) where
  -- the parent of a piece, in a row that hangs under v and in a part of it
  parent-below : (v p : ℕ) (d : Datum) (k r : Tree) (j : ℕ) → Distinct (grow p d k r) → In j k → parent_in j v (grow p d k r) ≡ parent_in j p k
  parent-below v p d k r j u h = rw (ne_eqb p j (λ z. u.not_below (in-eq k (sym z) h)), in-holds j k h) refl

  parent-beside : (v p : ℕ) (d : Datum) (k r : Tree) (j : ℕ) → Distinct (grow p d k r) → In j r → parent_in j v (grow p d k r) ≡ parent_in j v r
  parent-beside v p d k r j u h =
      rw (ne_eqb p j (λ z. u.not_beside (in-eq r (sym z) h)), absent-holds j k (λ z. u.apart j z h)) refl

  -- in a row, what is below one of its pieces is left when its free last piece goes
  below_stays : (v : ℕ) (q : Datum) (r : Tree) → Children settings q r → Distinct r → (v ≡ parent_in i v r → ⊥) → At i e r → At i e (without_last r)
  below_stays v q nil c u n h = absurd h
  below_stays v q (grow p d k r) c u n h =
      go (is_free d.kind) refl h (λ o. below_stays v q r c.beside u.beside (λ z. n (z ∙ sym (parent-beside v p d k r i u (at_in i e r o)))) o)
    where
      go : (b : Bool) → is_free d.kind ≡ b → At i e (grow p d k r) → (At i e r → At i e (without_last r)) → At i e (without_last (grow p d k r))
      go true b (inl o) ih = absurd (n (rw (eq-eqb p i (sym o.0)) refl))
      go true b (inr (inl o)) ih = absurd (rw (free-kind d.kind d k r b c.kinded).childless at o)
      go true b (inr (inr o)) ih = absurd (rw (free-kind d.kind d k r b c.kinded).last at o)
      go false b (inl o) ih = rw b (inl o)
      go false b (inr (inl o)) ih = rw b (inr (inl o))
      go false b (inr (inr o)) ih = rw b (inr (inr (ih o)))

  -- the two are under different parents, if both are in this row or below it
  abbrev Parted : ℕ → Tree → Type 0
  Parted v w = In x w → parent_in x v w ≡ parent_in i v w → ⊥

  row_stays : (v : ℕ) (q : Datum) (w : Tree) → Children settings q w → Distinct w → (i ≡ x → ⊥) → (Inside x i w → ⊥) → Parted v w → At i e w
      → At i e (cleared x w)
  row_stays v q nil c u n out far h = absurd h
  row_stays v q (grow p d k r) c u n out far h =
      go (same? p x) h
      (λ o. row_stays p d k c.below u.below n (λ z. out (inr (inl z)))
      (λ z s. far (inr (inl z)) (parent-below v p d k r x u z ∙ s ∙ sym (parent-below v p d k r i u (at_in i e k o)))) o)
      (λ o. row_stays v q r c.beside u.beside n (λ z. out (inr (inr z)))
      (λ z s. far (inr (inr z)) (parent-beside v p d k r x u z ∙ s ∙ sym (parent-beside v p d k r i u (at_in i e r o)))) o)
    where
      here : p ≡ x → parent_in x v (grow p d k r) ≡ v
      here z = rw (eq-eqb p x z) refl

      go : (p ≡ x) ⊎ (p ≡ x → ⊥) → At i e (grow p d k r) → (At i e k → At i e (cleared x k)) → (At i e r → At i e (cleared x r))
          → At i e (cleared x (grow p d k r))
      go (inl z) (inl o) ik ir = absurd (n (o.0 ∙ z))
      go (inl z) (inr (inl o)) ik ir = absurd (out (inl (sym z, at_in i e k o)))
      go (inl z) (inr (inr o)) ik ir =
          rw (eq-eqb p x z)
          (below_stays v q r c.beside u.beside (λ s. far (inl (sym z)) (here z ∙ s ∙ sym (parent-beside v p d k r i u (at_in i e r o)))) o)
      go (inr m) (inl o) ik ir = rw (ne_eqb p x m) (inl o)
      go (inr m) (inr (inl o)) ik ir = rw (ne_eqb p x m) (inr (inl (ik o)))
      go (inr m) (inr (inr o)) ik ir = rw (ne_eqb p x m) (inr (inr (ir o)))

  pub far-stays : (limit : ℕ) (t : Tree) → Topped settings t → Distinct t → (x ≡ 0 → ⊥) → (i ≡ x → ⊥) → (Inside x i t → ⊥)
      → (parent_of limit x t ≡ parent_of limit i t → ⊥) → At i e t → At i e (cleared x t)
  far-stays limit nil c u b n out far h = absurd h
  far-stays limit (grow p d k r) c u b n out far h = rw (ne_eqb p x (λ z. b (sym z ∙ c.0.place))) (go h)
    where
      go : At i e (grow p d k r) → At i e (grow p d (cleared x k) (cleared x r))
      go (inl o) = inl o
      go (inr (inl o)) =
          inr (inl (row_stays p d k c.1 u.below n (λ z. out (inr (inl z)))
          (λ z s. far (parent-below limit p d k r x u z ∙ s ∙ sym (parent-below limit p d k r i u (at_in i e k o)))) o))
      go (inr (inr o)) = absurd (rw c.0.alone at o)

-- ---- what is inside a piece that stays

inside-after : (y z : ℕ) (a b : Tree) → Inside y z (after a b) → Inside y z a ⊎ Inside y z b
inside-after y z nil b h = inr h
inside-after y z (grow p d k r) b (inl h) = inl (inl h)
inside-after y z (grow p d k r) b (inr (inl h)) = inl (inr (inl h))
inside-after y z (grow p d k r) b (inr (inr h)) = ⊎_elim (λ o. inl (inr (inr o))) inr (inside-after y z r b h)

inside-left : (y z : ℕ) (r : Tree) → Inside y z (without_last r) → Inside y z r
inside-left y z nil h = h
inside-left y z (grow p d k r) h = go (is_free d.kind && is_nil r) h (inside-left y z r)
  where
    go : (c : Bool) → Inside y z (cond c nil (grow p d k (without_last r))) → (Inside y z (without_last r) → Inside y z r) → Inside y z (grow p d k r)
    go true o ih = absurd o
    go false (inl o) ih = inl o
    go false (inr (inl o)) ih = inr (inl o)
    go false (inr (inr o)) ih = inr (inr (ih o))

-- the row that a deed puts in the place of its piece has nothing at z but what was there
row_in : (f : Deed) (z : ℕ) → Spares z f → (d : Datum) (r : Tree) → In z (does f d r) → In z r
row_in (books b) z s d r h = ⊎_elim (λ o. absurd (block-clear z b s d o)) (λ o. o) (in_after z (block b d) r h)
row_in (takes n u) z s d r h = ⊎_elim (in_left z r) (λ o. absurd (s o)) (settled-in n u z d r h)

row_inside : (f : Deed) (y z : ℕ) → Spares y f → (d : Datum) (r : Tree) → Inside y z (does f d r) → Inside y z r
unfolding settled
row_inside (books b) y z s d r h =
    ⊎_elim (λ o. absurd (block-clear y b s d (inside-outer y z (block b d) o))) (λ o. o) (inside-after y z (block b d) r h)
row_inside (takes n u) y z s d r h =
    ⊎_elim (inside-left y z r) (λ o. ⊎_elim (λ v. absurd v.1) (λ v. ⊎_elim absurd absurd v) o) (inside-after y z (without_last r) _ h)

module _ (x : ℕ) (f : Deed) (y z : ℕ) (sy : Spares y f) (sz : Spares z f) where
  in-was : (w : Tree) → In z (change x (does f) w) → In z w
  in-was nil h = h
  in-was (grow p d k r) h = go (eqb p x) h (in-was k) (in-was r)
    where
      go : (c : Bool) → In z (cond c (does f d r) (grow p d (change x (does f) k) (change x (does f) r))) → (In z (change x (does f) k) → In z k)
          → (In z (change x (does f) r) → In z r) → In z (grow p d k r)
      go true o ik ir = inr (inr (row_in f z sz d r o))
      go false (inl o) ik ir = inl o
      go false (inr (inl o)) ik ir = inr (inl (ik o))
      go false (inr (inr o)) ik ir = inr (inr (ir o))

  pub inside-was : (w : Tree) → Inside y z (change x (does f) w) → Inside y z w
  inside-was nil h = h
  inside-was (grow p d k r) h = go (eqb p x) h (inside-was k) (inside-was r)
    where
      go : (c : Bool) → Inside y z (cond c (does f d r) (grow p d (change x (does f) k) (change x (does f) r)))
          → (Inside y z (change x (does f) k) → Inside y z k) → (Inside y z (change x (does f) r) → Inside y z r) → Inside y z (grow p d k r)
      go true o ik ir = inr (inr (row_inside f y z sy d r o))
      go false (inl o) ik ir = inl (o.0, in-was k o.1)
      go false (inr (inl o)) ik ir = inr (inl (ik o))
      go false (inr (inr o)) ik ir = inr (inr (ir o))

-- ---- a booking leaves a piece that its free piece is not inside with all that is below it

pub subtree-booked : (x : ℕ) (d : Datum) (b : Booking) (y : ℕ) → (y ≡ x → ⊥) → Clear y b → (w : Tree) → Where x (Alone d) w → (Inside y x w → ⊥)
    → subtree y (book x b w) ≡ subtree y w
subtree-booked x d b y n s nil a out = refl
subtree-booked x d b y n s (grow p c k r) a out =
    go (same? p x) (same? p y) (subtree-booked x d b y n s k a.1 (λ z. out (inr (inl z))))
    (subtree-booked x d b y n s r a.2 (λ z. out (inr (inr z))))
  where
    go : (p ≡ x) ⊎ (p ≡ x → ⊥) → (p ≡ y) ⊎ (p ≡ y → ⊥) → subtree y (book x b k) ≡ subtree y k → subtree y (book x b r) ≡ subtree y r
        → subtree y (book x b (grow p c k r)) ≡ subtree y (grow p c k r)
    go (inl e) m ik ir =
        let o = a.0 e in
        let none : In y (after (block b c) nil) → ⊥ = λ h. ⊎_elim (block-clear y b s c) absurd (in_after y (block b c) nil h) in
        rw (eq-eqb p x e, o.1, o.2, ne_eqb p y (λ z. n (sym z ∙ e)), subtree-absent y (after (block b c) nil) none) refl
    go (inr m) (inl e) ik ir = rw (ne_eqb p x m, eq-eqb p y e, absent x (booked_row b) k (λ h. out (inl (sym e, h)))) refl
    go (inr m) (inr l) ik ir = rw (ne_eqb p x m, ne_eqb p y l, ik, ir)

-- ---- nothing is inside a piece that is without children

pub alone-inside : (x i : ℕ) (d : Datum) (w : Tree) → Where x (Alone d) w → Inside x i w → ⊥
alone-inside x i d nil a h = h
alone-inside x i d (grow p c k r) a (inl h) = rw (a.0 (sym h.0)).1 at h.1
alone-inside x i d (grow p c k r) a (inr (inl h)) = alone-inside x i d k a.1 h
alone-inside x i d (grow p c k r) a (inr (inr h)) = alone-inside x i d r a.2 h
