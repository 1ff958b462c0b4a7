-- What the answers of the searches say. Assumes nothing.
use mathlib.Core.Path.{◌≡◌, sym, ◌∙◌}
use mathlib.Core.List.{List}
use mathlib.Core.Bool.{true}
use Prim.Native.Nat.{ℕ, ◌≤◌, ◌<◌}
use native.Mathlib.Omega.{arith}
use native.Mathlib.Decide.{ℕ_discrete, dec_lt}
use lib.ListN.{get_or}
use borrow.Author.Tests.{eqb-true, eqb-false}
use Rattle.lists.specs.Search.{index_of, stands_at, differ, apart, apart_below}
use Rattle.lists.proofs.Scan.{clash, first-most, first_holds, first-before, every-all, every-at}
use Rattle.lists.proofs.Look.{other, twice, unheld}

-- ---- the first index of a place

module _ (l : List ℕ) (n p : ℕ) where
  pub index-most : index_of l n p ≤ n
  unfolding index_of
  index-most = let h = first-most (stands_at l p) n 0 in omega arith

  pub index-holds : index_of l n p < n → get_or l (index_of l n p) 0 ≡ p
  unfolding index_of
  index-holds h = eqb-true (get_or l (index_of l n p) 0) p (first_holds (stands_at l p) n 0 (omega arith))

  pub index-before : (j : ℕ) → j < index_of l n p → get_or l j 0 ≡ p → ⊥
  unfolding index_of
  index-before j h = eqb-false (get_or l j 0) p (first-before (stands_at l p) n 0 j (omega arith) h)

  -- an entry that is the place is not passed
  pub index-found : (j : ℕ) → j < n → get_or l j 0 ≡ p → index_of l n p ≤ j
  index-found j h e = go (dec_lt j (index_of l n p))
    where
      go : Dec (j < index_of l n p) → index_of l n p ≤ j
      go (yes b) = absurd (index-before j b e)
      go (no b) = omega arith

-- ---- serials

module _ (bound : ℕ) (s : List ℕ) where
  -- serials that are not 0 stand once
  pub differ-at : differ bound s ≡ true → (i j : ℕ) → i < bound → j < bound → (get_or s i 0 ≡ 0 → ⊥) → get_or s i 0 ≡ get_or s j 0 → i ≡ j
  unfolding differ
  differ-at d i j a b m e = go (ℕ_discrete i j) (dec_lt i j)
    where
      later : (x y : ℕ) → x < bound → y < x → (get_or s x 0 ≡ 0 → ⊥) → get_or s y 0 ≡ get_or s x 0 → ⊥
      later x y h g q z = clash (sym (twice s x y g q z) ∙ every-at (apart_below s) bound x d h)

      go : Dec (i ≡ j) → Dec (i < j) → i ≡ j
      go (yes q) z = q
      go (no q) (yes z) = absurd (later j i b z (λ y. m (e ∙ y)) e)
      go (no q) (no z) = absurd (later i j a (omega arith) m (sym e))

  pub differ-all : ((i j : ℕ) → i < bound → j < bound → (get_or s i 0 ≡ 0 → ⊥) → get_or s i 0 ≡ get_or s j 0 → i ≡ j) → differ bound s ≡ true
  unfolding differ
  differ-all d = every-all (apart_below s) bound (λ i h. go i h (ℕ_discrete (get_or s i 0) 0))
    where
      apart_from : (i j : ℕ) → i < bound → (get_or s i 0 ≡ 0 → ⊥) → j < i → get_or s j 0 ≡ get_or s i 0 → ⊥
      apart_from i j h m b e = let q = d i j h (omega arith) m (sym e) in omega arith

      go : (i : ℕ) → i < bound → Dec (get_or s i 0 ≡ 0) → apart_below s i ≡ true
      go i h (yes z) = unheld s i z
      go i h (no m) = every-all (apart s i) i (λ j b. other s i j (apart_from i j h m b))
