-- A chain of tests, as a function with a return after each goes through it: a test that holds is passed, and one that fails ends the chain.
use mathlib.Core.Path.{◌≡◌, refl, sym, ◌∙◌}
use mathlib.Core.Bool.{Bool, true, false, cond, not, ◌&&◌}
use Prim.Native.Nat.{ℕ, ◌<◌, ◌≤◌}
use lib.Dec.{eqb, ltb, leb}
use borrow.Author.Tests.{eq-eqb, ne_eqb, lt-ltb, le-ltb, le-leb, lt-leb}

pub pass : {a b r : Bool} → a ≡ true → r ≡ b → r ≡ (a && b)
pass e f = rw e f

pub stop : {a : Bool} (b : Bool) → a ≡ false → false ≡ (a && b)
stop b e = rw e refl

-- the test is a callee's, which says a
pub pass-by : {a b r t : Bool} → t ≡ a → t ≡ true → r ≡ b → r ≡ (a && b)
pass-by e h = pass (sym e ∙ h)

pub stop-by : {a t : Bool} (b : Bool) → t ≡ a → t ≡ false → false ≡ (a && b)
stop-by b e h = stop b (sym e ∙ h)

module _ {x y : ℕ} where
  pub pass-eq : {b r : Bool} → x ≡ y → r ≡ b → r ≡ (eqb x y && b)
  pass-eq h = pass (eq-eqb x y h)

  pub stop-ne : (b : Bool) → (x ≡ y → ⊥) → false ≡ (eqb x y && b)
  stop-ne b h = stop b (ne_eqb x y h)

  pub pass-ne : {b r : Bool} → (x ≡ y → ⊥) → r ≡ b → r ≡ (not (eqb x y) && b)
  pass-ne h f = rw (ne_eqb x y h) f

  pub stop-eq : (b : Bool) → x ≡ y → false ≡ (not (eqb x y) && b)
  stop-eq b h = rw (eq-eqb x y h) refl

  pub pass_le : {b r : Bool} → x ≤ y → r ≡ b → r ≡ (leb x y && b)
  pass_le h = pass (le-leb x y h)

  pub stop-gt : (b : Bool) → y < x → false ≡ (leb x y && b)
  stop-gt b h = stop b (lt-leb x y h)

  pub pass-lt : {b r : Bool} → x < y → r ≡ b → r ≡ (ltb x y && b)
  pass-lt h = pass (lt-ltb x y h)

  pub stop-ge : (b : Bool) → y ≤ x → false ≡ (ltb x y && b)
  stop-ge b h = stop b (le-ltb x y h)

  -- one of two answers
  pub when-eq : {a r : Bool} (b : Bool) → x ≡ y → r ≡ a → r ≡ cond (eqb x y) a b
  when-eq b h f = rw (eq-eqb x y h) f

  pub when-ne : {b r : Bool} (a : Bool) → (x ≡ y → ⊥) → r ≡ b → r ≡ cond (eqb x y) a b
  when-ne a h f = rw (ne_eqb x y h) f

-- each test in turn, as the places of a proof have it
pub ruleset tests = (pass-by, stop-by, pass-eq, stop-ne, pass-ne, stop-eq, pass_le, stop-gt, pass-lt, stop-ge, when-eq, when-ne)

-- a test for equality, wherever it stands
pub ruleset equals = (eq-eqb, ne_eqb)
