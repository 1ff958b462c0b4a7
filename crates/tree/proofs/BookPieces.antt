-- The pieces of a booked tree: those of the tree without the free piece, and those of the block; no place is in both. A free piece has no
-- children, so nothing else goes with it. It rests on the laws of what stays (Kept, Stays).
use mathlib.Core.Path.{◌≡◌, refl, sym, ◌∙◌}
use mathlib.Core.Logic.{◌⊎◌, inl, inr, ⊎_elim}
use Prim.Native.Nat.{ℕ}
use borrow.Author.Tests.{eq-eqb, ne_eqb}
use Rattle.piece.specs.declared.node.Datum.{Datum}
use Rattle.piece.specs.declared.node.Kind.TheVariants.{Free}
use Rattle.piece.specs.declared.settings.Settings.{Settings}
use Rattle.piece.specs.Row.{nil, grow}
use Rattle.tree.specs.Tree.{Tree, In, At, rest}
use Rattle.tree.specs.Sound.{Sound}
use Rattle.tree.specs.Booking.{Booking, block, book}
use Rattle.tree.specs.Accepted.{Fresh}
use Rattle.tree.specs.Steps.{less}
use Rattle.tree.proofs.Rows.{same?, in-eq, at_in, after-nil}
use Rattle.tree.proofs.Kept.{Where, Alone, free-alone}
use Rattle.tree.proofs.Stays.{at-book, at_others, less-at}
use Rattle.tree.proofs.Goes.{less-in}
use Rattle.tree.proofs.Blocks.{block_in}
use Rattle.tree.proofs.BookKept.{book-distinct}
use Rattle.tree.proofs.Bookings.{at-unique}

-- d stands at x, without children and last of its row
module _ (x : ℕ) (d : Datum) (i : ℕ) (e : Datum) where
  -- a piece of the booked tree is left, or is of the block
  parted : (b : Booking) (w : Tree) → Where x (Alone d) w → At i e (book x b w) → At i e (less x w) ⊎ At i e (block b d)
  parted b nil a h = inl h
  parted b (grow y c k r) a h = go (same? y x) (parted b k a.1) (parted b r a.2)
    where
      go : (y ≡ x) ⊎ (y ≡ x → ⊥) → (At i e (book x b k) → At i e (less x k) ⊎ At i e (block b d))
          → (At i e (book x b r) → At i e (less x r) ⊎ At i e (block b d)) → At i e (less x (grow y c k r)) ⊎ At i e (block b d)
      go (inl z) f g =
          let o = a.0 z in
          inr (rw (after-nil (block b d)) at (rw (o.0, o.2) at (rw (eq-eqb y x z) at h)))
      go (inr m) f g =
          rw (ne_eqb y x m)
          (⊎_elim (λ o. inl (inl o))
          (λ v. ⊎_elim (λ o. ⊎_elim (λ u. inl (inr (inl u))) inr (f o)) (λ o. ⊎_elim (λ u. inl (inr (inr u))) inr (g o)) v) (rw (ne_eqb y x m) at h))

  -- a piece of the block is there
  planted-in : (b : Booking) (w : Tree) → Where x (Alone d) w → In x w → At i e (block b d) → At i e (book x b w)
  planted-in b nil a o h = absurd o
  planted-in b (grow y c k r) a o h = go (same? y x) o (λ u. planted-in b k a.1 u h) (λ u. planted-in b r a.2 u h)
    where
      go : (y ≡ x) ⊎ (y ≡ x → ⊥) → In x (grow y c k r) → (In x k → At i e (book x b k)) → (In x r → At i e (book x b r))
          → At i e (book x b (grow y c k r))
      go (inl z) u f g = let o = a.0 z in rw (eq-eqb y x z, o.0, o.2, after-nil (block b d)) h
      go (inr m) (inl u) f g = absurd (m (sym u))
      go (inr m) (inr (inl u)) f g = rw (ne_eqb y x m) (inr (inl (f u)))
      go (inr m) (inr (inr u)) f g = rw (ne_eqb y x m) (inr (inr (g u)))

-- the free piece d stands at x in a sound tree
module _ (limit : ℕ) (settings : Settings) (w : Tree) (sound : Sound limit settings w) (x : ℕ) (d : Datum) (there : At x d w)
    (free : d.kind ≡ Free) where
  alone : Where x (Alone d) w
  alone = free-alone settings x d w sound.topped sound.distinct there free

  -- the place x is not left
  pub less-gone : In x (less x w) → ⊥
  less-gone h = (less-in x w sound.distinct x h).1 refl

  pub less-was : (i : ℕ) (e : Datum) → At i e (less x w) → At i e w × (i ≡ x → ⊥)
  less-was i e h = (less-at i e x w h, λ z. less-gone (in-eq (less x w) z (at_in i e (less x w) h)))

  pub less-keeps : (i : ℕ) (e : Datum) → At i e w → (i ≡ x → ⊥) → At i e (less x w)
  less-keeps i e h n = at_others x rest (Alone d) i e (λ c k r z. z.1) (λ c r z. z) n w alone h

  pub less_one : (i : ℕ) (e f : Datum) → At i e (less x w) → At i f (less x w) → e ≡ f
  less_one i e f g h = sym (at-unique i e f w sound.distinct (less-was i e g).0 (less-was i f h).0)

  module _ (b : Booking) where
    pub book-pieces : (i : ℕ) (e : Datum) → At i e (book x b w) → At i e (less x w) ⊎ At i e (block b d)
    book-pieces i e h = parted x d i e b w alone h

    pub book-left : (i : ℕ) (e : Datum) → At i e (less x w) → At i e (book x b w)
    book-left i e h = let o = less-was i e h in at-book x d b i e w alone o.1 o.0

    pub book-new : (i : ℕ) (e : Datum) → At i e (block b d) → At i e (book x b w)
    book-new i e h = planted-in x d i e b w alone (at_in x d w there) h

    -- the places of the block are new, and all are different
    module _ (new : Fresh limit x b w) where
      pub block_apart : (i : ℕ) → In i (block b d) → In i (less x w) → ⊥
      block_apart i h g =
          let z = block_in b d i h in
          let o = less-in x w sound.distinct i g in
          o.1 (z.2 ∙ new.unheld z.0 z.1 (in-eq w z.2 o.0))

      pub book-one : (i : ℕ) (e f : Datum) → At i e (book x b w) → At i f (book x b w) → e ≡ f
      book-one i e f g h = sym (at-unique i e f (book x b w) (book-distinct limit x b w sound.distinct new) g h)
