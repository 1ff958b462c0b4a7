-- The walk along a row, as the loop of `row_ok` goes: what the rest of the walk says, from what the loop has seen.
use mathlib.Core.Path.{◌≡◌, refl, sym, ◌∙◌}
use mathlib.Core.List.{List}
use mathlib.Core.Bool.{Bool, true, false}
use Prim.Native.Nat.{ℕ, zero, suc, ◌+◌, ◌-◌, ◌<◌, ◌≤◌}
use native.Mathlib.Nat.{not-suc-le-zero}
use native.Mathlib.Omega.{arith}
use borrow.Author.Tests.{le-leb, lt-leb}
use Rattle.piece.specs.declared.settings.Settings.{Settings}
use Rattle.table.specs.declared.Node.{Node}
use Rattle.table.specs.Table.{at}
use Rattle.sound.specs.Rows.{chain_b, child_b, end_b, parent_b, row_b, step}

less_one : (n : ℕ) → suc n - 1 ≡ n
less_one n = omega arith

module _ (limit : ℕ) (settings : Settings) (t : List Node) (q : ℕ) where
  -- a child is passed
  pub chain-on : (m pv p sum : ℕ) {b : Bool} → 0 < m → p < limit → b ≡ child_b limit settings (at t q) q pv (at t p) → b ≡ true
      → chain_b limit settings t q m pv p sum ≡ chain_b limit settings t q (m - 1) p (at t p).next (sum + step (at t p))
  unfolding chain_b
  chain-on zero pv p sum h l e y = absurd (not-suc-le-zero h)
  chain-on (suc m) pv p sum h l e y = rw (lt-leb limit p l, ← e, y, less_one m) refl

  -- one is no child
  pub chain-bad : (m pv p sum : ℕ) {b : Bool} → p < limit → b ≡ child_b limit settings (at t q) q pv (at t p) → b ≡ false
      → chain_b limit settings t q m pv p sum ≡ false
  unfolding chain_b
  chain-bad zero pv p sum l e n = refl
  chain-bad (suc m) pv p sum l e n = rw (lt-leb limit p l, ← e, n) refl

  -- the walk has stopped at no place, or after as many steps as there are
  pub chain-ends : (m pv p sum : ℕ) → 0 < m → limit ≤ p → chain_b limit settings t q m pv p sum ≡ end_b limit (at t q) pv p sum
  unfolding chain_b
  chain-ends zero pv p sum h l = absurd (not-suc-le-zero h)
  chain-ends (suc m) pv p sum h l = rw (le-leb limit p l) refl

  pub chain-out : (m pv p sum : ℕ) → m ≤ 0 → chain_b limit settings t q m pv p sum ≡ false
  unfolding chain_b
  chain-out zero pv p sum h = refl
  chain-out (suc m) pv p sum h = absurd (not-suc-le-zero h)

  -- a held structure's row is walked, and another place has none
  pub row_is : {a b : Bool} → a ≡ parent_b (at t q) → a ≡ true → chain_b limit settings t q limit limit (at t q).first 0 ≡ b
      → row_b limit settings t q ≡ b
  row_is e y f = rw (sym e ∙ y) f

  pub row-none : {a : Bool} → a ≡ parent_b (at t q) → a ≡ false → row_b limit settings t q ≡ true
  row-none e n = rw (sym e ∙ n) refl
