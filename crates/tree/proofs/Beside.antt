-- What stands beside a piece that is removed, on trees: it was not inside that piece, and it keeps all that is below it, so that the same part
-- numbers come out with it. It rests on the laws of a removal (Counts, RemoveKept) and of a change (Changes). Assumes nothing.
use mathlib.Core.Path.{◌≡◌, refl, sym, ◌∙◌}
use mathlib.Core.Bool.{Bool, true, false, cond, ◌&&◌}
use mathlib.Core.Logic.{◌⊎◌, inl, inr, ⊎_elim}
use Prim.Native.Nat.{ℕ}
use borrow.Author.Tests.{eq-eqb, ne_eqb}
use Rattle.piece.specs.declared.node.Datum.{Datum}
use Rattle.piece.specs.Row.{nil, grow}
use Rattle.piece.specs.Kinds.{is_free}
use Rattle.tree.specs.Tree.{Tree, In, Inside, Distinct, after, is_nil}
use Rattle.tree.specs.Removal.{without_last, settled, remove, cleared, subtree}
use Rattle.tree.proofs.Rows.{same?, in-eq}
use Rattle.tree.proofs.Counts.{in-cleared, in_remove}
use Rattle.tree.proofs.RemoveKept.{in_left}
use Rattle.tree.proofs.Changes.{absent}
use Rattle.tree.proofs.Goes.{subtree-absent}

-- ---- what is inside a piece goes with it

pub inside-outer : (x i : ℕ) (t : Tree) → Inside x i t → In x t
inside-outer x i nil h = h
inside-outer x i (grow p d k r) (inl h) = inl h.0
inside-outer x i (grow p d k r) (inr (inl h)) = inr (inl (inside-outer x i k h))
inside-outer x i (grow p d k r) (inr (inr h)) = inr (inr (inside-outer x i r h))

inside-inner : (x i : ℕ) (t : Tree) → Inside x i t → In i t
inside-inner x i nil h = h
inside-inner x i (grow p d k r) (inl h) = inr (inl h.1)
inside-inner x i (grow p d k r) (inr (inl h)) = inr (inl (inside-inner x i k h))
inside-inner x i (grow p d k r) (inr (inr h)) = inr (inr (inside-inner x i r h))

-- what is left when x has gone was not inside x
pub left-outside : (x i : ℕ) (t : Tree) → Distinct t → In i (cleared x t) → Inside x i t → ⊥
left-outside x i nil u h g = g
left-outside x i (grow p d k r) u h g = go (same? p x) (left-outside x i k u.below) (left-outside x i r u.beside)
  where
    here : p ≡ x → In i r → Inside x i (grow p d k r) → ⊥
    here e o (inl z) = u.apart i z.1 o
    here e o (inr (inl z)) = u.not_below (in-eq k (sym e) (inside-outer x i k z))
    here e o (inr (inr z)) = u.not_beside (in-eq r (sym e) (inside-outer x i r z))

    further : (p ≡ x → ⊥) → (In i (cleared x k) → Inside x i k → ⊥) → (In i (cleared x r) → Inside x i r → ⊥)
        → In i (grow p d (cleared x k) (cleared x r)) → Inside x i (grow p d k r) → ⊥
    further m a b o (inl z) = m (sym z.0)
    further m a b (inl e) (inr (inl z)) = u.not_below (in-eq k e (inside-inner x i k z))
    further m a b (inr (inl o)) (inr (inl z)) = a o z
    further m a b (inr (inr o)) (inr (inl z)) = u.apart i (inside-inner x i k z) (in-cleared x i r o)
    further m a b (inl e) (inr (inr z)) = u.not_beside (in-eq r e (inside-inner x i r z))
    further m a b (inr (inl o)) (inr (inr z)) = u.apart i (in-cleared x i k o) (inside-inner x i r z)
    further m a b (inr (inr o)) (inr (inr z)) = b o z

    go : (p ≡ x) ⊎ (p ≡ x → ⊥) → (In i (cleared x k) → Inside x i k → ⊥) → (In i (cleared x r) → Inside x i r → ⊥) → ⊥
    go (inl e) a b = here e (in_left i r (rw (eq-eqb p x e) at h)) g
    go (inr m) a b = further m a b (rw (ne_eqb p x m) at h) g

-- ---- what is left keeps what is below it

-- in the row without its free last piece
subtree-left : (y : ℕ) (r : Tree) → Distinct r → In y (without_last r) → subtree y (without_last r) ≡ subtree y r
subtree-left y nil u h = refl
subtree-left y (grow p d k r) u h = go (is_free d.kind && is_nil r) h (subtree-left y r u.beside)
  where
    later : (In y (without_last r) → subtree y (without_last r) ≡ subtree y r) → In y (grow p d k (without_last r))
        → subtree y (grow p d k (without_last r)) ≡ subtree y (grow p d k r)
    later ih (inl e) = rw (eq-eqb p y (sym e)) refl
    later ih (inr (inl o)) = rw (subtree-absent y r (u.apart y o), subtree-absent y (without_last r) (λ z. u.apart y o (in_left y r z))) refl
    later ih (inr (inr o)) = rw (ih o) refl

    go : (c : Bool) → In y (cond c nil (grow p d k (without_last r))) → (In y (without_last r) → subtree y (without_last r) ≡ subtree y r)
        → subtree y (cond c nil (grow p d k (without_last r))) ≡ subtree y (grow p d k r)
    go true o ih = absurd o
    go false o ih = later ih o

module _ (x n s y : ℕ) (apart : y ≡ n → ⊥) where
  -- behind which the new free piece comes
  subtree-end : (f : Datum) (a : Tree) → subtree y (after a (grow n f nil nil)) ≡ subtree y a
  subtree-end f nil = rw (ne_eqb n y (λ e. apart (sym e))) refl
  subtree-end f (grow p d k r) = rw (subtree-end f r) refl

  -- a place that is not held does not come to be held, but for that of the new piece
  still-absent : (t : Tree) → (In y t → ⊥) → In y (remove x n s t) → ⊥
  still-absent t none h = ⊎_elim apart (λ o. none (in-cleared x y t o)) (in_remove x n s y t h)

  -- A removal leaves a piece that is beside it with all that is below it.
  pub subtree-beside : (t : Tree) → Distinct t → In y (cleared x t) → (Inside y x t → ⊥) → subtree y (remove x n s t) ≡ subtree y t
  unfolding settled
  subtree-beside nil u h out = refl
  subtree-beside (grow p d k r) u h out =
      go (same? p x) (λ o. subtree-beside k u.below o (λ z. out (inr (inl z)))) (λ o. subtree-beside r u.beside o (λ z. out (inr (inr z))))
    where
      here : p ≡ x → In y (without_last r) → subtree y (settled n s d r) ≡ subtree y (grow p d k r)
      here e o =
          let held = in_left y r o in
          rw (ne_eqb p y (λ z. u.not_beside (in-eq r (sym z) held)), subtree-absent y k (λ z. u.apart y z held))
          (subtree-end _ (without_last r) ∙ subtree-left y r u.beside o)

      further : (In y (cleared x k) → subtree y (remove x n s k) ≡ subtree y k) → (In y (cleared x r) → subtree y (remove x n s r) ≡ subtree y r)
          → In y (grow p d (cleared x k) (cleared x r)) → subtree y (grow p d (remove x n s k) (remove x n s r)) ≡ subtree y (grow p d k r)
      further ik ir (inl e) =
          rw (eq-eqb p y (sym e), absent x (settled n s) k (λ o. out (inl (e, o)))) refl
      further ik ir (inr (inl o)) =
          let held = in-cleared x y k o in
          let none = u.apart y held in
          rw (ne_eqb p y (λ z. u.not_below (in-eq k (sym z) held)), ik o, subtree-absent y r none, subtree-absent y (remove x n s r) (still-absent r none))
      further ik ir (inr (inr o)) =
          let held = in-cleared x y r o in
          let none : In y k → ⊥ = λ z. u.apart y z held in
          rw (ne_eqb p y (λ z. u.not_beside (in-eq r (sym z) held)), ir o, subtree-absent y k none, subtree-absent y (remove x n s k) (still-absent k none))

      go : (p ≡ x) ⊎ (p ≡ x → ⊥) → (In y (cleared x k) → subtree y (remove x n s k) ≡ subtree y k)
          → (In y (cleared x r) → subtree y (remove x n s r) ≡ subtree y r)
          → subtree y (remove x n s (grow p d k r)) ≡ subtree y (grow p d k r)
      go (inl e) ik ir = rw (eq-eqb p x e) (here e (rw (eq-eqb p x e) at h))
      go (inr m) ik ir = rw (ne_eqb p x m) (further ik ir (rw (ne_eqb p x m) at h))
