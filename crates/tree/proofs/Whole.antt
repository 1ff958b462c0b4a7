-- Whole numbers as f64, up to 2^53: their sums are exact, and a quotient of two is 1 exactly where the two are equal. Assumes nothing.
use mathlib.Core.Path.{◌≡◌, refl, sym, ◌∙◌}
use mathlib.Core.Bool.{false}
use mathlib.Core.Logic.{◌⊎◌, inl, inr}
use Prim.Native.Nat.{ℕ, ◌+◌, ◌-◌, ◌*◌, ◌^◌, ◌≤◌, ◌<◌}
use native.Mathlib.Nat.{mul-one, mul-pos, eq-or-lt_of_le}
use native.Mathlib.Omega.{arith}
use lib.Dec.{T}
use lib.Pow.{pow_pos}
use borrow.Author.Tests.{ne_eqb}
use lib.Ieee.{Float, fin, binary64, up, down, of_bits, round, sum, add, mul, div, le, of_int}
use lib.Ieee.Exact.{HasValue}
use lib.Ieee.Back.{round_whole}
use lib.Ieee.Scale.{round_same}
use lib.Ieee.Order.{round_mono}
use lib.Ieee.Fits.{down_pos}
use Rattle.tree.specs.Figures.{nought, one, whole}

-- x is the whole number a
abbrev Is : Float → ℕ → Type 0
Is x a = HasValue x false a 1

whole_is : (a : ℕ) → a ≤ 2 ^ 53 → Is (whole a) a
unfolding of_int
whole_is a h = round_whole binary64 false a h

-- ---- the operations on whole numbers. Each works its result out as a fraction, which is that of whole numbers

add-fraction : (x y p q a b : ℕ) → x * 1 ≡ a * p → y * 1 ≡ b * q → (x * q + y * p) * 1 ≡ (a + b) * (p * q)
add-fraction x y p q a b v w = rw (← mul-one x, ← mul-one y, v, w) (omega arith)

div-fraction : (x y p q a b : ℕ) → x * 1 ≡ a * p → y * 1 ≡ b * q → x * q * b ≡ a * (y * p)
div-fraction x y p q a b v w = rw (← mul-one x, ← mul-one y, v, w) (omega arith)

add_is : (x y : Float) (a b : ℕ) → Is x a → Is y b → add binary64 x y ≡ whole (a + b)
unfolding add sum of_int
add_is (fin s m e) (fin t n d) a b v w =
    rw (v.0, w.0)
    (round_same binary64 false (m * up e * down d + n * up d * down e) (down e * down d) (a + b) 1 (mul-pos (down_pos e) (down_pos d))
    (pow_pos 0) (add-fraction (m * up e) (n * up d) (down e) (down d) a b v.1 w.1))
add_is lib.Ieee.nan y a b v w = elim v [ ]
add_is (lib.Ieee.inf _) y a b v w = elim v [ ]
add_is (fin s m e) lib.Ieee.nan a b v w = elim w [ ]
add_is (fin s m e) (lib.Ieee.inf _) a b v w = elim w [ ]

mul-one-is : (x : Float) (a : ℕ) → Is x a → mul binary64 x one ≡ whole a
unfolding mul of_int of_bits
mul-one-is (fin s m e) a v =
    rw v.0 (round_same binary64 false (m * up e * 1) (down e * 1) a 1 (mul-pos (down_pos e) (pow_pos 0)) (pow_pos 0) (omega (arith, v.1)))
mul-one-is lib.Ieee.nan a v = elim v [ ]
mul-one-is (lib.Ieee.inf _) a v = elim v [ ]

-- the number that is divided by is not 0
not-zero : (n u b q : ℕ) → n * u * 1 ≡ b * q → 0 < b → 0 < q → n ≡ 0 → ⊥
not-zero n u b q w hb hq z =
    let none : 0 * u * 1 ≡ b * q = rw z at w in
    omega (arith, mul-pos hb hq)

div_is : (x y : Float) (a b : ℕ) → 0 < b → Is x a → Is y b → div binary64 x y ≡ round binary64 false a b
unfolding div
div_is (fin s m e) (fin t n d) a b hb v w =
    rw (v.0, w.0, ne_eqb n 0 (not-zero n (up d) b (down d) w.1 hb (down_pos d)))
    (round_same binary64 false (m * up e * down d) (n * up d * down e) a b (mul-pos top (down_pos e)) hb
    (div-fraction (m * up e) (n * up d) (down e) (down d) a b v.1 w.1))
  where
    top : 0 < n * up d
    top = omega (arith, w.1, mul-pos hb (down_pos d))
div_is lib.Ieee.nan y a b hb v w = elim v [ ]
div_is (lib.Ieee.inf _) y a b hb v w = elim v [ ]
div_is (fin s m e) lib.Ieee.nan a b hb v w = elim w [ ]
div_is (fin s m e) (lib.Ieee.inf _) a b hb v w = elim w [ ]

-- ---- what the figures need

pub nought-whole : nought ≡ whole 0
unfolding of_int of_bits
nought-whole = refl

-- sums are exact
pub add-whole : (a b : ℕ) → a ≤ 2 ^ 53 → b ≤ 2 ^ 53 → add binary64 (whole a) (whole b) ≡ whole (a + b)
add-whole a b ha hb = add_is (whole a) (whole b) a b (whole_is a ha) (whole_is b hb)

pub mul-one-whole : (a : ℕ) → a ≤ 2 ^ 53 → mul binary64 (whole a) one ≡ whole a
mul-one-whole a h = mul-one-is (whole a) a (whole_is a h)

pub mul-nought : mul binary64 (whole 0) nought ≡ whole 0
unfolding mul of_int of_bits
mul-nought = refl

one-round : round binary64 false 1 1 ≡ one
unfolding round of_bits
one-round = refl

-- a number divided by itself
pub full-is-one : (a : ℕ) → 0 < a → a ≤ 2 ^ 53 → div binary64 (whole a) (whole a) ≡ one
full-is-one a ha h =
    div_is (whole a) (whole a) a a ha (whole_is a h) (whole_is a h) ∙ round_same binary64 false a a 1 1 ha (pow_pos 0) (omega arith) ∙ one-round

-- the greatest quotient of two different numbers that there can be is below 1
not-one : T (le one (round binary64 false (2 ^ 53 - 1) (2 ^ 53))) → ⊥
unfolding le round of_bits
not-one t = t

pub one-is-full : (a b : ℕ) → a ≤ b → 0 < b → b ≤ 2 ^ 53 → div binary64 (whole a) (whole b) ≡ one → a ≡ b
one-is-full a b h hb small e = go (eq-or-lt_of_le h)
  where
    rounded : round binary64 false a b ≡ one
    rounded = sym (div_is (whole a) (whole b) a b hb (whole_is a (omega arith)) (whole_is b small)) ∙ e

    go : (a ≡ b) ⊎ (a < b) → a ≡ b
    go (inl z) = z
    go (inr l) = absurd (not-one (rw rounded at (round_mono binary64 a b (2 ^ 53 - 1) (2 ^ 53) hb (pow_pos 53) (omega arith))))
