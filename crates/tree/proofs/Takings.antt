-- Takings: untidy structures that go one after the other, in any order. All that is asked of the tree here is its top and its rows, and that no place is held
-- twice: how many nodes there may be doesn't count. Assumes nothing.
use mathlib.Core.Path.{◌≡◌, refl, sym, ap, ◌∙◌}
use mathlib.Core.Logic.{◌⊎◌, inl, inr}
use Prim.Native.Nat.{ℕ, ◌+◌, ◌≤◌}
use native.Mathlib.Omega.{arith}
use Rattle.piece.specs.declared.settings.Settings.{Settings}
use Rattle.piece.specs.Row.{nil, grow}
use Rattle.tree.specs.Tree.{Tree, Distinct}
use Rattle.tree.specs.Sound.{Topped}
use Rattle.tree.specs.Snapshot.{shape}
use Rattle.tree.specs.Removal.{remove}
use Rattle.tree.specs.Apart.{Removable}
use Rattle.tree.specs.Tidy.{Untidy, Tidy, Takings, none, taken, empties, tidied}
use Rattle.tree.proofs.Rows.{same?, in-eq, at_in}
use Rattle.tree.proofs.RemoveKept.{remove-topped, remove-distinct}
use Rattle.tree.proofs.Tidying.{bare-hollow, untidy-bare, tree-count, find, tidy-row}
use Rattle.tree.proofs.Tidied.{tree-stays}

-- the old removal takes an untidy piece
pub removable : (x : ℕ) (t : Tree) → Untidy x t → Removable x t
removable x t a = record { piece = a.piece; there = a.there; solid = rw a.structure refl; below = a.below }

module _ (settings : Settings) where
  -- one less of those with no part inside
  pub one_less : (x n s : ℕ) (t : Tree) → Topped settings t → Distinct t → Untidy x t → 1 + empties (remove x n s t) ≡ empties t
  one_less x n s t h u a = tree-count settings n s x t h u (at_in x a.piece t a.there) a.below (untidy-bare x t u a)

  -- some, so one is untidy; the top's place is not below it
  pub one-untidy : (t : Tree) → Topped settings t → Distinct t → 1 ≤ empties t → (x : ℕ) × Untidy x t
  one-untidy nil h u l = absurd h
  one-untidy (grow p d k r) h u l =
      let f = find settings d k h.1 l in (
        f.at,
        record {
          piece = f.piece;
          there = inr (inl f.there);
          structure = f.structure;
          below = λ e. u.not_below (in-eq k (e ∙ sym h.0.place) (at_in f.at f.piece k f.there));
          place = f.place;
          child = f.child;
          only = inr (inl f.only);
          free = f.free;
        },
      )

  -- none is untidy, so there is none
  pub none-empty : (t : Tree) → Topped settings t → Distinct t → Tidy t → empties t ≡ 0
  none-empty t h u n = go (same? (empties t) 0)
    where
      go : (empties t ≡ 0) ⊎ (empties t ≡ 0 → ⊥) → empties t ≡ 0
      go (inl e) = e
      go (inr m) = let z = one-untidy t h u (omega arith) in absurd (n z.0 z.1)

  -- and nothing is to be done
  pub done : (t : Tree) → Topped settings t → Distinct t → Tidy t → tidied t ≡ t
  done nil h u n = refl
  done (grow p d k r) h u n = rw (tidy-row k (none-empty (grow p d k r) h u n)) refl

  module _ {limit : ℕ} where
    pub kept : {t u : Tree} {k : ℕ} → Topped settings t → Distinct t → Takings limit t k u → Topped settings u × Distinct u
    kept h v none = (h, v)
    kept {t = t} h v (taken x n s a l m g) = kept (remove-topped settings x n s t h v (removable x t a)) (remove-distinct x n s t v m) g

    pub counted : {t u : Tree} {k : ℕ} → Topped settings t → Distinct t → Takings limit t k u → k + empties u ≡ empties t
    counted h v none = omega arith
    counted {t = t} h v (taken x n s a l m g) =
        let z = one_less x n s t h v a in
        let y = counted (remove-topped settings x n s t h v (removable x t a)) (remove-distinct x n s t v m) g in
        omega arith

    -- the tidy tree stays what it was
    pub one-tidied : {t u : Tree} {k : ℕ} → Topped settings t → Distinct t → Takings limit t k u → shape (tidied u) ≡ shape (tidied t)
    one-tidied h v none = refl
    one-tidied {t = t} h v (taken x n s a l m g) =
        one-tidied (remove-topped settings x n s t h v (removable x t a)) (remove-distinct x n s t v m) g
        ∙ tree-stays settings x n s t h a.below (bare-hollow x t (untidy-bare x t v a))

    -- and it is reached once nothing is untidy
    pub reached : {t u : Tree} {k : ℕ} → Topped settings t → Distinct t → Takings limit t k u → Tidy u → shape u ≡ shape (tidied t)
    reached {u = u} h v g n =
        let w = kept h v g in
        ap shape (sym (done u w.0 w.1 n)) ∙ one-tidied h v g
