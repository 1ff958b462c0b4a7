-- The ways through a call: a test that passes goes on to what comes next, and one that fails ends with its refusal.
use mathlib.Core.Path.{◌≡◌, refl, sym, ◌∙◌}
use mathlib.Core.Bool.{Bool, true, false, cond, ◌||◌}

module _ {A : Type 0} where
  pub onward : {a : Bool} {x r : A} (y : A) → a ≡ true → r ≡ x → r ≡ cond a x y
  onward y e f = rw e f

  pub ended : {a : Bool} {y r : A} (x : A) → a ≡ false → r ≡ y → r ≡ cond a x y
  ended x e f = rw e f

  -- the test is a callee's, which says a
  pub onward-by : {a t : Bool} {x r : A} (y : A) → t ≡ a → t ≡ true → r ≡ x → r ≡ cond a x y
  onward-by y e h = onward y (sym e ∙ h)

  pub ended_by : {a t : Bool} {y r : A} (x : A) → t ≡ a → t ≡ false → r ≡ y → r ≡ cond a x y
  ended_by x e h = ended x (sym e ∙ h)

-- one of two tests, the second made where the first fails
pub either : {a : Bool} (b : Bool) → a ≡ true → (a || b) ≡ true
either b e = rw e refl

pub or_else : {a b r : Bool} → a ≡ false → b ≡ r → (a || b) ≡ r
or_else e f = rw e f
