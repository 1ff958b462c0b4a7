-- Where the pieces of a sound tree stand: the levels of its rows, the free piece at the end of one, and what is known of the piece at a place
-- (Kept's `Where`) by the row that it stands in (Kids' `Spot`). Assumes nothing.
use mathlib.Core.Path.{◌≡◌, refl, subst}
use mathlib.Core.Bool.{true, cond, ◌&&◌}
use mathlib.Core.List.{List, [], ◌∷◌}
use mathlib.Core.Logic.{inl, inr}
use Prim.Native.Nat.{ℕ, ◌+◌}
use Rattle.piece.specs.declared.node.Datum.{Datum}
use Rattle.piece.specs.declared.settings.Settings.{Settings}
use Rattle.piece.specs.Row.{nil, grow}
use Rattle.piece.specs.Kinds.{is_free}
use Rattle.lists.proofs.Scan.{clash, and_left, and_right}
use Rattle.tree.specs.Tree.{Tree, after, is_nil}
use Rattle.tree.specs.Sound.{Children, Topped}
use Rattle.tree.specs.Steps.{Rooted, Kids, Deep}
use Rattle.tree.proofs.Kept.{Where, free-kind}
use Rattle.tree.proofs.Kids.{Spot}

-- the place of the free piece at the end of a row, if there is one
abbrev pub free_end : Tree → List ℕ
free_end nil = []
free_end (grow p d k r) = cond (is_free d.kind && is_nil r) (p ∷ []) (free_end r)

-- no free piece of the row has children
abbrev pub FreeLeaves : Tree → Type 0
FreeLeaves nil = Unit {0}
FreeLeaves (grow p d k r) = (is_free d.kind ≡ true → k ≡ nil) × FreeLeaves r

-- the free piece at the end of a row is alone there
pub end-alone : (p : ℕ) (d : Datum) (k r : Tree) → FreeLeaves (grow p d k r) → (is_free d.kind && is_nil r) ≡ true → (k ≡ nil) × (r ≡ nil)
end-alone p d k r f e = (f.0 (and_left (is_free d.kind) (is_nil r) e), none r (and_right (is_free d.kind) (is_nil r) e))
  where
    none : (u : Tree) → is_nil u ≡ true → u ≡ nil
    none nil z = refl
    none (grow i c l v) z = absurd (clash z)

-- a sound tree has its one top at place 0, each row is one level deeper than the row above, and what is free has no children
module _ (settings : Settings) where
  pub topped-rooted : (w : Tree) → Topped settings w → Rooted w
  topped-rooted nil h = h
  topped-rooted (grow p d k r) h = (h.0.place, h.0.alone)

  pub children-deep : (q : Datum) (k : Tree) → Children settings q k → Deep (q.level + 1) k
  children-deep q nil h = tt
  children-deep q (grow p d k r) h =
      (h.child.level, rw h.child.level at (children-deep d k h.below), children-deep q r h.beside)

  pub topped-deep : (w : Tree) → Topped settings w → Deep 0 w
  topped-deep nil h = tt
  topped-deep (grow p d k r) h =
      (h.0.level, rw h.0.level at (children-deep d k h.1), rw h.0.alone tt)

  children-leaves : (q : Datum) (k : Tree) → Children settings q k → FreeLeaves k
  children-leaves q nil h = tt
  children-leaves q (grow p d k r) h = ((λ e. (free-kind d.kind d k r e h.kinded).childless), children-leaves q r h.beside)

  kids-leaves : (q : Datum) (x : ℕ) (k w : Tree) → Children settings q w → Kids x k w → FreeLeaves k
  kids-leaves q x k nil h g = absurd g
  kids-leaves q x k (grow p d l r) h (inl e) = rw e.1 (children-leaves d l h.below)
  kids-leaves q x k (grow p d l r) h (inr (inl g)) = kids-leaves d x k l h.below g
  kids-leaves q x k (grow p d l r) h (inr (inr g)) = kids-leaves q x k r h.beside g

  pub topped-leaves : (x : ℕ) (k w : Tree) → Topped settings w → Kids x k w → FreeLeaves k
  topped-leaves x k nil h g = absurd g
  topped-leaves x k (grow p d l r) h (inl e) = rw e.1 (children-leaves d l h.1)
  topped-leaves x k (grow p d l r) h (inr (inl g)) = kids-leaves d x k l h.1 g
  topped-leaves x k (grow p d l r) h (inr (inr g)) = absurd (subst (λ (z : Tree). Kids x k z) h.0.alone g)

pub leaves-from : (a b : Tree) → FreeLeaves (after a b) → FreeLeaves b
leaves-from nil b f = f
leaves-from (grow p d k r) b f = leaves-from r b f.1

-- what holds of the pieces at a place holds of the one that stands there
module _ (x : ℕ) (P : Datum → Tree → Tree → Type 0) where
  where-row : (a : Tree) (d : Datum) (l b : Tree) → Where x P (after a (grow x d l b)) → P d l b
  where-row nil d l b h = h.0 refl
  where-row (grow p e k r) d l b h = where-row r d l b h.2

  where-kids : (q : ℕ) (m w : Tree) → Where x P w → Kids q m w → Where x P m
  where-kids q m nil h g = absurd g
  where-kids q m (grow p e k r) h (inl z) = rw z.1 h.1
  where-kids q m (grow p e k r) h (inr (inl g)) = where-kids q m k h.1 g
  where-kids q m (grow p e k r) h (inr (inr g)) = where-kids q m r h.2 g

  pub where-spot : (w : Tree) (s : Spot x w) → Where x P w → P s.datum s.below s.behind
  where-spot w s h =
      where-row s.before s.datum s.below s.behind
      (where-kids s.parent (after s.before (grow x s.datum s.below s.behind)) w h s.kids)
