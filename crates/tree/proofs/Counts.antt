-- How many nodes a booking and a removal leave, and at which places.
use mathlib.Core.Path.{◌≡◌, sym, ap}
use mathlib.Core.Bool.{Bool, true, false, cond}
use mathlib.Core.Logic.{◌⊎◌, inl, inr, ⊎_elim}
use Prim.Native.Nat.{ℕ, ◌+◌, ◌≤◌}
use native.Mathlib.Omega.{arith}
use lib.Dec.{eqb}
use borrow.Author.Tests.{eq-eqb, ne_eqb}
use Rattle.piece.specs.declared.node.Datum.{Datum}
use Rattle.piece.specs.declared.node.Kind.TheVariants.{Free}
use Rattle.piece.specs.declared.settings.Settings.{Settings}
use Rattle.piece.specs.Row.{nil, grow}
use Rattle.piece.specs.Insertion.{new_nodes}
use Rattle.tree.specs.Tree.{Tree, In, At, Distinct, count, change, rest}
use Rattle.tree.specs.Sound.{Sound}
use Rattle.tree.specs.Booking.{Booking, booked_row, book}
use Rattle.tree.specs.Removal.{settled, remove, left, cleared}
use Rattle.tree.proofs.Rows.{same?, in-eq, at_in, count-after}
use Rattle.tree.proofs.Kept.{Where, Alone, free-alone}
use Rattle.tree.proofs.Places.{in-less, gone, in-change}
use Rattle.tree.proofs.Blocks.{New, block-count}
use Rattle.tree.proofs.BookKept.{booked-in}
use Rattle.tree.proofs.RemoveKept.{in_left, settled-in, settled-count}
use Rattle.tree.proofs.Changes.{absent}

pub count-remove : (x n s : ℕ) (t : Tree) → count (remove x n s t) ≤ count t
count-remove x n s nil = omega arith
count-remove x n s (grow y d k r) = go (eqb y x) (count-remove x n s k) (count-remove x n s r)
  where
    go : (b : Bool) → count (remove x n s k) ≤ count k → count (remove x n s r) ≤ count r
        → count (cond b (settled n s d r) (grow y d (remove x n s k) (remove x n s r))) ≤ count (grow y d k r)
    go true a b = omega (arith, settled-count n s d r)
    go false a b = omega arith

pub in-cleared : (x i : ℕ) (t : Tree) → In i (cleared x t) → In i t
in-cleared x i t h = in-less x left (λ j d r. in_left j r) i t h

pub in_remove : (x n s i : ℕ) (t : Tree) → In i (remove x n s t) → (i ≡ n) ⊎ In i (cleared x t)
in_remove x n s i t h =
    ⊎_elim inr (λ z. inl z.0) (in-change x left (settled n s) (λ j. j ≡ n) (settled-in n s) i t h)

module _ (x : ℕ) (f : Datum → Tree → Tree) (P : Datum → Tree → Tree → Type 0) (a c : ℕ)
    (local : (d : Datum) (k r : Tree) → P d k r → count (f d r) + a ≡ 1 + (count k + count r) + c) where
  count-change : (t : Tree) → In x t → Distinct t → Where x P t → count (change x f t) + a ≡ count t + c
  count-change nil i u w = absurd i
  count-change (grow y d k r) i u w =
      go (same? y x) i (λ h. count-change k h u.below w.1) (λ h. count-change r h u.beside w.2)
    where
      go : (y ≡ x) ⊎ (y ≡ x → ⊥) → In x (grow y d k r) → (In x k → count (change x f k) + a ≡ count k + c)
          → (In x r → count (change x f r) + a ≡ count r + c) → count (change x f (grow y d k r)) + a ≡ count (grow y d k r) + c
      go (inl e) i ik ir = rw (eq-eqb y x e) (local d k r (w.0 e))
      go (inr n) (inl e) ik ir = absurd (n (sym e))
      go (inr n) (inr (inl h)) ik ir = let z = ik h in rw (ne_eqb y x n, absent x f r (u.apart x h)) (omega arith)
      go (inr n) (inr (inr h)) ik ir = let z = ir h in rw (ne_eqb y x n, absent x f k (λ o. u.apart x o h)) (omega arith)

-- a booking takes the free piece away and adds the nodes of its shape
pub count-book : (limit : ℕ) (settings : Settings) (t : Tree) (x : ℕ) (d : Datum) (b : Booking) → Sound limit settings t → At x d t
    → d.kind ≡ Free → count (book x b t) + 1 ≡ count t + new_nodes b.shape
count-book limit settings t x d b h i a =
    count-change x (booked_row b) (Alone d) 1 (new_nodes b.shape)
    (λ e k r z. rw count-after (omega (arith, block-count b e, ap count z.1)))
    t (at_in x d t i) h.distinct (free-alone settings x d t h.topped h.distinct i a)

-- a place after a booking was there and is not the free piece's, or is that of a new node
pub in-book : (x : ℕ) (b : Booking) (i : ℕ) (t : Tree) → Distinct t → In i (book x b t) → (In i t × (i ≡ x → ⊥)) ⊎ New b i
in-book x b i t u h =
    ⊎_elim
    (λ z. inl (in-less x rest (λ j d r o. o) i t z, λ e. gone x rest (λ j d r o. o) t u (in-eq (change x rest t) e z)))
    (λ z. inr z.0)
    (in-change x rest (booked_row b) (New b) (booked-in b) i t h)
