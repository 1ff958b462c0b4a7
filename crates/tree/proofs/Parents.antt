-- A piece that a booking or a removal leaves keeps its parent, and the parent stays as it is. Both are steps in which the pieces at one place
-- give way to another row (Kept and Places), so the parents are followed once, over that step. Assumes nothing.
use mathlib.Core.Path.{◌≡◌, refl, sym, ◌∙◌, subst}
use mathlib.Core.Bool.{Bool, true, false, cond, ◌&&◌}
use mathlib.Core.Logic.{◌⊎◌, inl, inr, ⊎_elim}
use Prim.Native.Nat.{ℕ}
use lib.Dec.{eqb}
use borrow.Author.Tests.{eq-eqb, ne_eqb, eqb-false}
use Rattle.piece.specs.declared.node.Datum.{Datum}
use Rattle.piece.specs.declared.settings.Settings.{Settings}
use Rattle.piece.specs.declared.node.Kind.TheVariants.{Free}
use Rattle.piece.specs.declared.settings.Settings.{Settings}
use Rattle.piece.specs.Row.{nil, grow}
use Rattle.piece.specs.Kinds.{is_free}
use Rattle.lists.proofs.Scan.{clash}
use Rattle.tree.specs.Tree.{Tree, In, At, Distinct, after, change, rest, is_nil}
use Rattle.tree.specs.Sound.{Sound}
use Rattle.tree.specs.Booking.{Booking, block, booked_row, book}
use Rattle.tree.specs.Removal.{without_last, settled, remove, left, cleared}
use Rattle.tree.specs.Accepted.{Fresh}
use Rattle.tree.specs.Steps.{less}
use Rattle.tree.specs.Family.{holds, parent_in, parent_of}
use Rattle.tree.proofs.Rows.{same?, in-eq, at_in, in-first, in-second, in-at}
use Rattle.tree.proofs.Places.{in-less}
use Rattle.tree.proofs.BookKept.{book-distinct}
use Rattle.tree.proofs.RemoveKept.{in_left, remove-distinct}
use Rattle.tree.proofs.Stays.{at-remove, cleared_at}
use Rattle.tree.proofs.Kids.{after-apart}
use Rattle.tree.proofs.Family.{holds-in, in-holds, absent-holds}
use Rattle.tree.proofs.BookPieces.{less-was, book-left}

-- the piece at i has the same parent in both trees; it is no place, or the same piece stands there in both
pub record SameParent (limit i : ℕ) (w v : Tree) : Type 0 where
  pub same : parent_of limit i v ≡ parent_of limit i w
  pub there : (parent_of limit i w ≡ limit) ⊎ ((f : Datum) × At (parent_of limit i w) f w × At (parent_of limit i w) f v)

-- ---- the parent of i, in a row and in a part of it

module _ (i : ℕ) where
  parent-second : (q : ℕ) (a b : Tree) → (In i a → ⊥) → parent_in i q (after a b) ≡ parent_in i q b
  parent-second q nil b n = refl
  parent-second q (grow p d k r) b n =
      rw (ne_eqb p i (λ e. n (inl (sym e))), absent-holds i k (λ h. n (inr (inl h)))) (parent-second q r b (λ h. n (inr (inr h))))

  parent-first : (q : ℕ) (a b : Tree) → In i a → parent_in i q (after a b) ≡ parent_in i q a
  parent-first q nil b h = absurd h
  parent-first q (grow p d k r) b (inl e) = rw (eq-eqb p i (sym e)) refl
  parent-first q (grow p d k r) b (inr (inl h)) = rw (in-holds i k h) refl
  parent-first q (grow p d k r) b (inr (inr h)) = rw (parent-first q r b h) refl

  parent-without : (q : ℕ) (r : Tree) → In i (without_last r) → parent_in i q (without_last r) ≡ parent_in i q r
  parent-without q nil h = absurd h
  parent-without q (grow p d k r) h = go (is_free d.kind && is_nil r) h (parent-without q r)
    where
      go : (c : Bool) → In i (cond c nil (grow p d k (without_last r)))
          → (In i (without_last r) → parent_in i q (without_last r) ≡ parent_in i q r)
          → parent_in i q (cond c nil (grow p d k (without_last r))) ≡ parent_in i q (grow p d k r)
      go true h ih = absurd h
      go false (inl e) ih = rw (eq-eqb p i (sym e)) refl
      go false (inr (inl h)) ih = rw (in-holds i k h) refl
      go false (inr (inr h)) ih = rw (ih h) refl

  -- it is what the row hangs under, or is itself in the row
  parent-in : (q : ℕ) (r : Tree) → In i r → (parent_in i q r ≡ q) ⊎ In (parent_in i q r) r
  parent-in q nil h = absurd h
  parent-in q (grow p d k r) h = go (eqb p i) refl (holds i k) refl (parent-in p k) (parent-in q r)
    where
      late : eqb p i ≡ false → holds i k ≡ false → In i (grow p d k r) → In i r
      late e f (inl z) = absurd (eqb-false p i e (sym z))
      late e f (inr (inl z)) = absurd (clash (sym f ∙ in-holds i k z))
      late e f (inr (inr z)) = z

      go : (b : Bool) → eqb p i ≡ b → (c : Bool) → holds i k ≡ c → (In i k → (parent_in i p k ≡ p) ⊎ In (parent_in i p k) k)
          → (In i r → (parent_in i q r ≡ q) ⊎ In (parent_in i q r) r)
          → let v = cond b q (cond c (parent_in i p k) (parent_in i q r)) in (v ≡ q) ⊎ In v (grow p d k r)
      go true e c f ik ir = inl refl
      go false e true f ik ir = ⊎_elim (λ z. inr (inl z)) (λ z. inr (inr (inl z))) (ik (holds-in i k f))
      go false e false f ik ir = ⊎_elim inl (λ z. inr (inr (inr z))) (ir (late e f h))

-- ---- the step: the pieces at x give way to the row f, and of their own row g is left

module _ (x : ℕ) (g f : Datum → Tree → Tree) (less-row : (j : ℕ) (d : Datum) (r : Tree) → In j (g d r) → In j r)
    (more-row : (j : ℕ) (d : Datum) (r : Tree) → In j (g d r) → In j (f d r)) where
  in-more : (j : ℕ) (w : Tree) → In j (change x g w) → In j (change x f w)
  in-more j nil h = h
  in-more j (grow y d k r) h = go (eqb y x) h (in-more j k) (in-more j r)
    where
      go : (c : Bool) → In j (cond c (g d r) (grow y d (change x g k) (change x g r))) → (In j (change x g k) → In j (change x f k))
          → (In j (change x g r) → In j (change x f r)) → In j (cond c (f d r) (grow y d (change x f k) (change x f r)))
      go true h a b = more-row j d r h
      go false (inl z) a b = inl z
      go false (inr (inl h)) a b = inr (inl (a h))
      go false (inr (inr h)) a b = inr (inr (b h))

  -- a place i that is left, and what is so of it in the row of x
  module _ (i : ℕ)
      (same_row : (q : ℕ) (d : Datum) (r : Tree) → Distinct (f d r) → In i (g d r) → parent_in i q (f d r) ≡ parent_in i q r)
      (held-row : (q : ℕ) (d : Datum) (r : Tree) → In i (g d r) → (parent_in i q r ≡ q) ⊎ In (parent_in i q r) (g d r)) where
    was : (w : Tree) → In i (change x g w) → In i w
    was = in-less x g less-row i

    -- it keeps its parent
    parent-change : (q : ℕ) (w : Tree) → Distinct w → Distinct (change x f w) → In i (change x g w)
        → parent_in i q (change x f w) ≡ parent_in i q w
    parent-change q nil dis apart h = absurd h
    parent-change q (grow y d k r) dis apart h = go (same? y x) (parent-change y k dis.below) (parent-change q r dis.beside)
      where
        Kept : ℕ → Tree → Type 0
        Kept v u = Distinct (change x f u) → In i (change x g u) → parent_in i v (change x f u) ≡ parent_in i v u

        go : (y ≡ x) ⊎ (y ≡ x → ⊥) → Kept y k → Kept q r → parent_in i q (change x f (grow y d k r)) ≡ parent_in i q (grow y d k r)
        go (inl e) ik ir =
            let a : Distinct (f d r) = rw (eq-eqb y x e) at apart in
            let l : In i (g d r) = rw (eq-eqb y x e) at h in
            let j = less-row i d r l in
            rw (eq-eqb y x e, ne_eqb y i (λ z. dis.not_beside (in-eq r (sym z) j)), absent-holds i k (λ z. dis.apart i z j)) (same_row q d r a l)
        go (inr n) ik ir = other (rw (ne_eqb y x n) at apart) (rw (ne_eqb y x n) at h)
          where
            other : Distinct (grow y d (change x f k) (change x f r)) → In i (grow y d (change x g k) (change x g r))
                → parent_in i q (change x f (grow y d k r)) ≡ parent_in i q (grow y d k r)
            other a (inl z) = rw (ne_eqb y x n, eq-eqb y i (sym z)) refl
            other a (inr (inl l)) =
                let j = was k l in
                rw (ne_eqb y x n, ne_eqb y i (λ z. dis.not_below (in-eq k (sym z) j)), in-holds i k j, in-holds i (change x f k) (in-more i k l))
                (ik a.below l)
            other a (inr (inr l)) =
                let j = was r l in
                let m = in-more i r l in
                rw (
                  ne_eqb y x n,
                  ne_eqb y i (λ z. dis.not_beside (in-eq r (sym z) j)),
                  absent-holds i k (λ z. dis.apart i z j),
                  absent-holds i (change x f k) (λ z. a.apart i z m),
                )
                (ir a.beside l)

    -- and the parent, if it is not what the tree hangs under, is left too
    parent-stays : (q : ℕ) (w : Tree) → Distinct w → In i (change x g w) → (parent_in i q w ≡ q) ⊎ In (parent_in i q w) (change x g w)
    parent-stays q nil dis h = absurd h
    parent-stays q (grow y d k r) dis h = go (same? y x) (parent-stays y k dis.below) (parent-stays q r dis.beside)
      where
        Held : ℕ → Tree → Type 0
        Held v u = In i (change x g u) → (parent_in i v u ≡ v) ⊎ In (parent_in i v u) (change x g u)

        go : (y ≡ x) ⊎ (y ≡ x → ⊥) → Held y k → Held q r
            → (parent_in i q (grow y d k r) ≡ q) ⊎ In (parent_in i q (grow y d k r)) (change x g (grow y d k r))
        go (inl e) ik ir =
            let l : In i (g d r) = rw (eq-eqb y x e) at h in
            let j = less-row i d r l in
            rw (eq-eqb y x e, ne_eqb y i (λ z. dis.not_beside (in-eq r (sym z) j)), absent-holds i k (λ z. dis.apart i z j)) (held-row q d r l)
        go (inr n) ik ir = other (rw (ne_eqb y x n) at h)
          where
            -- under y, and among the later siblings
            below : {j : ℕ} → (j ≡ y) ⊎ In j (change x g k) → In j (grow y d (change x g k) (change x g r))
            below (inl z) = inl z
            below (inr z) = inr (inl z)

            beside : {j : ℕ} → (j ≡ q) ⊎ In j (change x g r) → (j ≡ q) ⊎ In j (grow y d (change x g k) (change x g r))
            beside (inl z) = inl z
            beside (inr z) = inr (inr (inr z))

            other : In i (grow y d (change x g k) (change x g r))
                → (parent_in i q (grow y d k r) ≡ q) ⊎ In (parent_in i q (grow y d k r)) (change x g (grow y d k r))
            other (inl z) = rw (eq-eqb y i (sym z)) (inl refl)
            other (inr (inl l)) =
                let j = was k l in
                let e : parent_in i q (grow y d k r) ≡ parent_in i y k = rw (ne_eqb y i (λ z. dis.not_below (in-eq k (sym z) j)), in-holds i k j) refl in
                rw (ne_eqb y x n)
                (subst (λ (p : ℕ). (p ≡ q) ⊎ In p (grow y d (change x g k) (change x g r))) (sym e) (inr (below (ik l))))
            other (inr (inr l)) =
                let j = was r l in
                let e : parent_in i q (grow y d k r) ≡ parent_in i q r =
                rw (ne_eqb y i (λ z. dis.not_beside (in-eq r (sym z) j)), absent-holds i k (λ z. dis.apart i z j)) refl
                in
                rw (ne_eqb y x n)
                (subst (λ (p : ℕ). (p ≡ q) ⊎ In p (grow y d (change x g k) (change x g r))) (sym e) (beside (ir l)))

-- ---- a booking

-- b is booked in the free piece d at x: a piece that is left keeps its parent
module _ (limit : ℕ) (settings : Settings) (w : Tree) (sound : Sound limit settings w) (x : ℕ) (d : Datum) (there : At x d w)
    (free : d.kind ≡ Free) (b : Booking) (new : Fresh limit x b w) where
  pub book-parent : (i : ℕ) (e : Datum) → At i e (less x w) → SameParent limit i w (book x b w)
  book-parent i e h = record { same = same; there = ⊎_elim inl (λ z. inr (held (in-at q (less x w) z))) stays }
    where
      q : ℕ
      q = parent_of limit i w

      l : In i (change x rest w)
      l = at_in i e (less x w) h

      same_row : (v : ℕ) (c : Datum) (r : Tree) → Distinct (booked_row b c r) → In i r → parent_in i v (booked_row b c r) ≡ parent_in i v r
      same_row v c r a z = parent-second i v (block b c) r (λ y. after-apart (block b c) r a i y z)

      same : parent_of limit i (book x b w) ≡ parent_of limit i w
      same =
          parent-change x rest (booked_row b) (λ j c r z. z) (λ j c r z. in-second j (block b c) r z) i same_row (λ v c r. parent-in i v r) limit w
          sound.distinct (book-distinct limit x b w sound.distinct new) l

      stays : (q ≡ limit) ⊎ In q (change x rest w)
      stays =
          parent-stays x rest (booked_row b) (λ j c r z. z) (λ j c r z. in-second j (block b c) r z) i same_row (λ v c r. parent-in i v r) limit w
          sound.distinct l

      held : (f : Datum) × At q f (less x w) → (f : Datum) × At q f w × At q f (book x b w)
      held o = (
        o.0,
        (less-was limit settings w sound x d there free q o.0 o.1).0,
        book-left limit settings w sound x d there free b q o.0 o.1,
      )

-- ---- a removal

-- the piece at x is removed, and the new free piece comes to n: a piece that is left keeps its parent
module _ (limit x n s : ℕ) (w : Tree) (apart : Distinct w) (new : In n (cleared x w) → ⊥) where
  pub remove-parent : (i : ℕ) (e : Datum) → At i e (cleared x w) → SameParent limit i w (remove x n s w)
  unfolding settled
  remove-parent i e h = record { same = same; there = ⊎_elim inl (λ z. inr (held (in-at q (cleared x w) z))) stays }
    where
      q : ℕ
      q = parent_of limit i w

      l : In i (change x left w)
      l = at_in i e (cleared x w) h

      more : (j : ℕ) (c : Datum) (r : Tree) → In j (without_last r) → In j (settled n s c r)
      more j c r z = in-first j (without_last r) _ z

      same_row : (v : ℕ) (c : Datum) (r : Tree) → Distinct (settled n s c r) → In i (without_last r)
          → parent_in i v (settled n s c r) ≡ parent_in i v r
      same_row v c r a z = parent-first i v (without_last r) _ z ∙ parent-without i v r z

      held-row : (v : ℕ) (c : Datum) (r : Tree) → In i (without_last r) → (parent_in i v r ≡ v) ⊎ In (parent_in i v r) (without_last r)
      held-row v c r z = rw (parent-without i v r z) at (parent-in i v (without_last r) z)

      same : parent_of limit i (remove x n s w) ≡ parent_of limit i w
      same =
          parent-change x left (settled n s) (λ j c r z. in_left j r z) more i same_row held-row limit w
          apart (remove-distinct x n s w apart new) l

      stays : (q ≡ limit) ⊎ In q (change x left w)
      stays = parent-stays x left (settled n s) (λ j c r z. in_left j r z) more i same_row held-row limit w apart l

      held : (f : Datum) × At q f (cleared x w) → (f : Datum) × At q f w × At q f (remove x n s w)
      held o = (o.0, cleared_at q o.0 x w o.1, at-remove x n s q o.0 w o.1)
