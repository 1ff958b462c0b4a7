-- The sums over places: a turn of each loop, and that a sum only grows.
use mathlib.Core.Path.{◌≡◌, refl, sym, ◌∙◌}
use mathlib.Core.List.{List}
use mathlib.Core.Bool.{Bool, true, false, cond}
use Prim.Native.Nat.{ℕ, zero, suc, ◌+◌, ◌≤◌}
use native.Mathlib.Numerals.{add-one}
use native.Mathlib.Omega.{arith}
use native.Mathlib.Decide.{ℕ_discrete}
use lib.Dec.{eqb}
use lib.ListN.{get_or}
use borrow.Author.Tests.{eq-eqb, ne_eqb}
use Rattle.sound.specs.Listed.{held_in, area_listed}

-- what falls at no step falls nowhere
pub grows : (g : ℕ → ℕ) → ((n : ℕ) → g n ≤ g (suc n)) → (m n : ℕ) → n ≤ m → g n ≤ g m
grows g step zero n h = let e : n ≡ 0 = omega arith in rw e (omega arith)
grows g step (suc m) n h = go (ℕ_discrete n (suc m)) (grows g step m n)
  where
    go : Dec (n ≡ suc m) → (n ≤ m → g n ≤ g m) → g n ≤ g (suc m)
    go (yes e) ih = rw e (omega arith)
    go (no e) ih = let l = ih (omega arith) in omega (arith, step m)

module _ (serial : List ℕ) where
  pub held-most : (n : ℕ) → held_in serial n ≤ n
  unfolding held_in
  held-most zero = omega arith
  held-most (suc n) = go (eqb (get_or serial n 0) 0) (held-most n)
    where
      go : (b : Bool) → held_in serial n ≤ n → held_in serial n + cond b 0 1 ≤ suc n
      go true h = omega arith
      go false h = omega arith

module _ (k : ℕ) (kind area : List ℕ) where
  pub area-none : area_listed k kind area 0 ≡ 0
  unfolding area_listed
  area-none = refl

  pub area-here : (n : ℕ) → get_or kind n 0 ≡ k → area_listed k kind area (n + 1) ≡ area_listed k kind area n + get_or area n 0
  unfolding area_listed
  area-here n e = rw (add-one n, eq-eqb (get_or kind n 0) k e) refl

  pub area-pass : (n : ℕ) → (get_or kind n 0 ≡ k → ⊥) → area_listed k kind area (n + 1) ≡ area_listed k kind area n
  unfolding area_listed
  area-pass n e = rw (add-one n, ne_eqb (get_or kind n 0) k e) (omega arith)

  -- the sum over more places is no smaller
  pub area-grows : (m n : ℕ) → n ≤ m → area_listed k kind area n ≤ area_listed k kind area m
  unfolding area_listed
  area-grows = grows (area_listed k kind area) (λ n. omega arith)

-- nothing is left exactly where the sum is `used`
pub none_left : (left sum used : ℕ) → left + sum ≡ used → eqb left 0 ≡ eqb sum used
none_left left sum used e = go (ℕ_discrete left 0)
  where
    go : Dec (left ≡ 0) → eqb left 0 ≡ eqb sum used
    go (yes z) = eq-eqb left 0 z ∙ sym (eq-eqb sum used (omega arith))
    go (no z) = ne_eqb left 0 z ∙ sym (ne_eqb sum used (λ w. z (omega arith)))
