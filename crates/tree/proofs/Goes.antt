-- A piece that goes, with all below it: its parent's children are the others, or those that a booking or a removal puts there. And what a piece
-- has below it. Assumes nothing.
use mathlib.Core.Path.{◌≡◌, refl, sym, ◌∙◌}
use mathlib.Core.Logic.{inl, inr}
use Prim.Native.Nat.{ℕ}
use borrow.Author.Tests.{eq-eqb, ne_eqb}
use Rattle.piece.specs.declared.node.Datum.{Datum}
use Rattle.piece.specs.Row.{nil, grow}
use Rattle.tree.specs.Tree.{Tree, In, Distinct, after, rest}
use Rattle.tree.specs.Booking.{Booking, block, booked_row, book}
use Rattle.tree.specs.Removal.{without_last, settled, remove, left, cleared, subtree}
use Rattle.tree.specs.Steps.{less, Kids}
use Rattle.tree.proofs.Rows.{in-eq, in-second, after-nil}
use Rattle.tree.proofs.Places.{in-less, gone}
use Rattle.tree.proofs.Kids.{kids_under, kids-distinct, after-apart, put, put-kids, change-put}

-- what is in the tree then
pub less-in : (x : ℕ) (w : Tree) → Distinct w → (i : ℕ) → In i (less x w) → In i w × (i ≡ x → ⊥)
less-in x w dis i h =
    (in-less x rest (λ j d r o. o) i w h, λ e. gone x rest (λ j d r o. o) w dis (in-eq (less x w) e h))

-- the piece x with all below it
module _ (x : ℕ) where
  pub subtree-absent : (w : Tree) → (In x w → ⊥) → subtree x w ≡ nil
  subtree-absent nil n = refl
  subtree-absent (grow p e k r) n =
      rw (ne_eqb p x (λ z. n (inl (sym z))), subtree-absent k (λ h. n (inr (inl h))), subtree-absent r (λ h. n (inr (inr h)))) refl

  subtree-row : (a : Tree) (d : Datum) (l b : Tree) → (In x a → ⊥) → subtree x (after a (grow x d l b)) ≡ grow x d l nil
  subtree-row nil d l b n = rw (eq-eqb x x refl) refl
  subtree-row (grow p e k r) d l b n =
      rw (ne_eqb p x (λ z. n (inl (sym z))), subtree-absent k (λ h. n (inr (inl h)))) (subtree-row r d l b (λ h. n (inr (inr h))))

  subtree-kids : (q : ℕ) (m w : Tree) → Distinct w → Kids q m w → In x m → subtree x w ≡ subtree x m
  subtree-kids q m nil dis h i = absurd h
  subtree-kids q m (grow p e k r) dis (inl z) i =
      let j : In x k = rw z.1 at i in
      rw (ne_eqb p x (λ y. dis.not_below (in-eq k (sym y) j)), subtree-absent r (dis.apart x j), after-nil (subtree x k), z.1) refl
  subtree-kids q m (grow p e k r) dis (inr (inl h)) i =
      let j : In x k = kids_under q m x k h i in
      rw (ne_eqb p x (λ y. dis.not_below (in-eq k (sym y) j)), subtree-absent r (dis.apart x j), after-nil (subtree x k)) (subtree-kids q m k dis.below h i)
  subtree-kids q m (grow p e k r) dis (inr (inr h)) i =
      let j : In x r = kids_under q m x r h i in
      rw (ne_eqb p x (λ y. dis.not_beside (in-eq r (sym y) j)), subtree-absent k (λ y. dis.apart x y j)) (subtree-kids q m r dis.beside h i)

-- the children of q, of which x is one
module _ (q x : ℕ) (a : Tree) (d : Datum) (l b w : Tree) (dis : Distinct w) (kids : Kids q (after a (grow x d l b)) w) where
  pub subtree-is : subtree x w ≡ grow x d l nil
  subtree-is =
      let m = after a (grow x d l b) in
      subtree-kids x q m w dis kids (in-second x a (grow x d l b) (inl refl))
      ∙ subtree-row x a d l b (λ i. after-apart a (grow x d l b) (kids-distinct q m w dis kids) x i (inl refl))

  -- x goes
  pub less-put : less x w ≡ put q (after a b) w
  less-put = change-put x rest q a d l b w dis kids

  pub less-kids : Kids q (after a b) (less x w)
  less-kids = rw less-put (put-kids q (after a b) (after a (grow x d l b)) w dis kids)

  -- what a removal leaves of the row of x, and what it puts behind that
  pub cleared-put : cleared x w ≡ put q (after a (without_last b)) w
  cleared-put = change-put x left q a d l b w dis kids

  pub remove-put : (n s : ℕ) → remove x n s w ≡ put q (after a (settled n s d b)) w
  remove-put n s = change-put x (settled n s) q a d l b w dis kids

  -- a booking puts its block in the place of x
  pub book-put : (c : Booking) → book x c w ≡ put q (after a (after (block c d) b)) w
  book-put c = change-put x (booked_row c) q a d l b w dis kids
