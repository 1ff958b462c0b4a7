-- A change of a tree, whatever it puts in a piece's place, and two of them. A booking and a removal are changes, so what is said here is said of both.
-- Assumes nothing.
use mathlib.Core.Path.{◌≡◌, refl, sym, ◌∙◌}
use mathlib.Core.Bool.{Bool, true, false, cond}
use mathlib.Core.Logic.{◌⊎◌, inl, inr}
use Prim.Native.Nat.{ℕ}
use lib.Dec.{eqb}
use borrow.Author.Tests.{eq-eqb, ne_eqb}
use Rattle.piece.specs.declared.node.Datum.{Datum}
use Rattle.piece.specs.Row.{nil, grow}
use Rattle.tree.specs.Tree.{Tree, In, after, change}
use Rattle.tree.specs.Snapshot.{shape}
use Rattle.tree.proofs.Rows.{same?}

-- A step that looks for the place x leaves every other piece: a row that does not have x, and what is before x.
module _ (x : ℕ) (g : Tree → Tree) (end : g nil ≡ nil)
    (pass : (p : ℕ) (d : Datum) (k r : Tree) → (p ≡ x → ⊥) → g (grow p d k r) ≡ grow p d (g k) (g r)) where
  pub pass-absent : (w : Tree) → (In x w → ⊥) → g w ≡ w
  pass-absent nil n = end
  pass-absent (grow p d k r) n =
      rw (pass p d k r (λ e. n (inl (sym e))), pass-absent k (λ h. n (inr (inl h))), pass-absent r (λ h. n (inr (inr h)))) refl

  pub pass-after : (a b : Tree) → (In x a → ⊥) → g (after a b) ≡ after a (g b)
  pass-after nil b n = refl
  pass-after (grow p d k r) b n =
      rw (pass p d k (after r b) (λ e. n (inl (sym e))), pass-absent k (λ h. n (inr (inl h))), pass-after r b (λ h. n (inr (inr h)))) refl

-- a change is one
module _ (x : ℕ) (f : Datum → Tree → Tree) where
  pub change-pass : (p : ℕ) (d : Datum) (k r : Tree) → (p ≡ x → ⊥) → change x f (grow p d k r) ≡ grow p d (change x f k) (change x f r)
  change-pass p d k r n = rw (ne_eqb p x n) refl

  pub absent : (t : Tree) → (In x t → ⊥) → change x f t ≡ t
  absent = pass-absent x (change x f) refl change-pass

  pub past : (a r : Tree) → (In x a → ⊥) → change x f (after a r) ≡ after a (change x f r)
  past = pass-after x (change x f) refl change-pass

-- two changes of one piece that put the same there, but for the marks
pub alike : (x : ℕ) (f g : Datum → Tree → Tree) → ((d : Datum) (r : Tree) → shape (f d r) ≡ shape (g d r)) → (t : Tree)
    → shape (change x f t) ≡ shape (change x g t)
alike x f g same nil = refl
alike x f g same (grow p d k r) = go (eqb p x) (alike x f g same k) (alike x f g same r)
  where
    go : (b : Bool) → shape (change x f k) ≡ shape (change x g k) → shape (change x f r) ≡ shape (change x g r)
        → shape (cond b (f d r) (grow p d (change x f k) (change x f r))) ≡ shape (cond b (g d r) (grow p d (change x g k) (change x g r)))
    go true ik ir = same d r
    go false ik ir = rw (ik, ir)

-- THE LAW OF TWO CHANGES: at different pieces x and y, f and then g give the tree that g' and then f' give, where they do so at a row that begins with x and at
-- one that begins with y. `Row` is what is known of a row, and so of the rows below its first piece and behind it.
module _ (x y : ℕ) (f g f' g' : Datum → Tree → Tree) (apart : x ≡ y → ⊥) (Row : Tree → Type 0)
    (below : (p : ℕ) (d : Datum) (k r : Tree) → Row (grow p d k r) → Row k)
    (behind : (p : ℕ) (d : Datum) (k r : Tree) → Row (grow p d k r) → Row r)
    (at_x : (d : Datum) (k r : Tree) → Row (grow x d k r) → shape (change y g (f d r)) ≡ shape (f' d (change y g' r)))
    (at_y : (d : Datum) (k r : Tree) → Row (grow y d k r) → shape (g d (change x f r)) ≡ shape (change x f' (g' d r))) where
  -- whichever is first
  abbrev Commute : Tree → Type 0
  Commute t = shape (change y g (change x f t)) ≡ shape (change x f' (change y g' t))

  pub commute : (t : Tree) → Row t → Commute t
  commute nil w = refl
  commute (grow p d k r) w = go (same? p x) (same? p y) (commute k (below p d k r w)) (commute r (behind p d k r w))
    where
      go : (p ≡ x) ⊎ (p ≡ x → ⊥) → (p ≡ y) ⊎ (p ≡ y → ⊥) → Commute k → Commute r → Commute (grow p d k r)
      go (inl e) (inl h) ik ir = absurd (apart (sym e ∙ h))
      go (inl e) (inr n) ik ir = rw (eq-eqb p x e, ne_eqb p y n, eq-eqb p x e) (at_x d k r (rw (← e) w))
      go (inr m) (inl h) ik ir = rw (ne_eqb p x m, eq-eqb p y h) (at_y d k r (rw (← h) w))
      go (inr m) (inr n) ik ir = rw (ne_eqb p x m, ne_eqb p y n, ne_eqb p x m, ik, ir)
