-- The places of a row in the order in which they leave, and that of the free piece at its end: which places a list names, and that these are the row's.
-- Assumes nothing.
use mathlib.Core.Path.{◌≡◌, refl}
use mathlib.Core.List.{List, [], ◌∷◌, ◌++◌}
use mathlib.Core.Bool.{Bool, true, false, cond, ◌&&◌}
use mathlib.Core.Logic.{◌⊎◌, inl, inr, ⊎_elim}
use Prim.Native.Nat.{ℕ}
use Rattle.piece.specs.Row.{nil, grow}
use Rattle.piece.specs.Kinds.{is_free}
use Rattle.tree.specs.Tree.{Tree, In, Distinct, is_nil}
use Rattle.tree.specs.Removal.{without_last}
use Rattle.tree.specs.Steps.{leaving}
use Rattle.tree.specs.ListSteps.{Names}
use Rattle.tree.proofs.Rows.{in-eq}
use Rattle.tree.proofs.Spots.{free_end, FreeLeaves, end-alone}

-- ---- the places that a list names, and one behind it

module _ (i : ℕ) where
  pub names-cases : (xs ys : List ℕ) → Names i (xs ++ ys) → Names i xs ⊎ Names i ys
  names-cases [] ys h = inr h
  names-cases (x ∷ xs) ys (inl e) = inl (inl e)
  names-cases (x ∷ xs) ys (inr h) = ⊎_elim (λ y. inl (inr y)) inr (names-cases xs ys h)

  pub names-first : (xs ys : List ℕ) → Names i xs → Names i (xs ++ ys)
  names-first [] ys h = absurd h
  names-first (x ∷ xs) ys (inl e) = inl e
  names-first (x ∷ xs) ys (inr h) = inr (names-first xs ys h)

  pub names-second : (xs ys : List ℕ) → Names i ys → Names i (xs ++ ys)
  names-second [] ys h = h
  names-second (x ∷ xs) ys h = inr (names-second xs ys h)

-- ---- the places that leave

module _ (i : ℕ) where
  -- a row that leaves: its places are those of the row
  pub leaving-in : (k : Tree) → Names i (leaving k) → In i k
  leaving-in nil h = h
  leaving-in (grow p d k r) h =
      ⊎_elim (λ y. inr (inl (leaving-in k y))) (λ y. ⊎_elim inl (λ v. inr (inr (leaving-in r v))) y) (names-cases i (leaving k) (p ∷ leaving r) h)

  pub in-leaving : (k : Tree) → In i k → Names i (leaving k)
  in-leaving nil h = h
  in-leaving (grow p d k r) (inl e) = names-second i (leaving k) (p ∷ leaving r) (inl e)
  in-leaving (grow p d k r) (inr (inl h)) = names-first i (leaving k) (p ∷ leaving r) (in-leaving k h)
  in-leaving (grow p d k r) (inr (inr h)) = names-second i (leaving k) (p ∷ leaving r) (inr (in-leaving r h))

  -- the free piece at the end of a row
  pub end-in : (b : Tree) → Names i (free_end b) → In i b
  end-in nil h = h
  end-in (grow p d k r) h = go (is_free d.kind && is_nil r) h (end-in r)
    where
      go : (c : Bool) → Names i (cond c (p ∷ []) (free_end r)) → (Names i (free_end r) → In i r) → In i (grow p d k r)
      go true (inl e) ih = inl e
      go true (inr h) ih = absurd h
      go false h ih = inr (inr (ih h))

  -- it is not left
  pub end-out : (b : Tree) → Distinct b → Names i (free_end b) → In i (without_last b) → ⊥
  end-out nil dis h g = h
  end-out (grow p d k r) dis h g = go (is_free d.kind && is_nil r) h g (end-out r dis.beside)
    where
      go : (c : Bool) → Names i (cond c (p ∷ []) (free_end r)) → In i (cond c nil (grow p d k (without_last r)))
          → (Names i (free_end r) → In i (without_last r) → ⊥) → ⊥
      go true h g ih = g
      go false h (inl e) ih = dis.not_beside (in-eq r e (end-in r h))
      go false h (inr (inl g)) ih = dis.apart i g (end-in r h)
      go false h (inr (inr g)) ih = ih h g

  -- and all else is
  pub left-or-end : (b : Tree) → FreeLeaves b → In i b → In i (without_last b) ⊎ Names i (free_end b)
  left-or-end nil f h = inl h
  left-or-end (grow p d k r) f h = go (is_free d.kind && is_nil r) refl h (left-or-end r f.1)
    where
      go : (c : Bool) → (is_free d.kind && is_nil r) ≡ c → In i (grow p d k r) → (In i r → In i (without_last r) ⊎ Names i (free_end r))
          → In i (cond c nil (grow p d k (without_last r))) ⊎ Names i (cond c (p ∷ []) (free_end r))
      go true z (inl e) ih = inr (inl e)
      go true z (inr (inl h)) ih = absurd (rw (end-alone p d k r f z).0 at h)
      go true z (inr (inr h)) ih = absurd (rw (end-alone p d k r f z).1 at h)
      go false z (inl e) ih = inl (inl e)
      go false z (inr (inl h)) ih = inl (inr (inl h))
      go false z (inr (inr h)) ih = ⊎_elim (λ y. inl (inr (inr y))) inr (ih h)
