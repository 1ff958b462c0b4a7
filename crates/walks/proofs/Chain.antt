-- The turns of the loop over a row of siblings, which the walks have. Assumes nothing.
use mathlib.Core.Path.{◌≡◌, refl}
use mathlib.Core.List.{List, [], ◌∷◌}
use Prim.Native.Nat.{ℕ, zero, suc, ◌-◌, ◌<◌, ◌≤◌}
use native.Mathlib.Nat.{not-suc-le-zero}
use native.Mathlib.Omega.{arith}
use lib.ListN.{get_or}
use borrow.Author.Tests.{le-leb, lt-leb}
use Rattle.walks.specs.Chain.{siblings}

pub less_one : (n : ℕ) → suc n - 1 ≡ n
less_one n = omega arith

module _ (limit : ℕ) (next : List ℕ) (c : ℕ) where
  -- no such place
  pub siblings-over : (m : ℕ) → limit ≤ c → siblings limit next m c ≡ []
  unfolding siblings
  siblings-over zero e = refl
  siblings-over (suc m) e = rw (le-leb limit c e)

  -- no turn is left
  pub siblings-zero : (m : ℕ) → m ≤ 0 → siblings limit next m c ≡ []
  unfolding siblings
  siblings-zero zero e = refl
  siblings-zero (suc m) e = absurd (not-suc-le-zero e)

  -- a turn
  pub siblings-more : (m : ℕ) → 0 < m → c < limit → siblings limit next m c ≡ c ∷ siblings limit next (m - 1) (get_or next c 0)
  unfolding siblings
  siblings-more zero h n = absurd (not-suc-le-zero h)
  siblings-more (suc m) h n = rw (lt-leb limit c n, less_one m)
