-- How far the next newline is, from one place to the next. Rests on specs/Lines alone.
use mathlib.Core.Path.{◌≡◌, refl, ap, ◌∙◌}
use mathlib.Core.Bool.{Bool, true, false, cond}
use mathlib.Core.List.{List, [], ◌∷◌}
use Prim.Native.Nat.{ℕ, zero, suc, ◌+◌, ◌-◌, ◌≤◌, ◌<◌}
use native.Mathlib.Numerals.{add-one}
use native.Mathlib.Omega.{arith}
use lib.Dec.{eqb, ltb}
use lib.ListN.{length, take, drop, get_or, length-drop, drop_of_length-le}
use lib.Seq.{drop-cons, length-take-le}
use borrow.Author.Tests.{eq-eqb, ne_eqb, lt-ltb, le-ltb}
use Rattle.lines.specs.Lines.{ahead, newline_from, chars_at, past_at}

-- by a Bool, so that both cases of a test are had at once
within : (b : Bool) (m n : ℕ) → m ≤ n → cond b zero (suc m) ≤ suc n
within true m n h = omega arith
within false m n h = omega arith

pub ahead-le : (s : List ℕ) → ahead s ≤ length s
unfolding ahead
ahead-le [] = omega arith
ahead-le (x ∷ s) = within (eqb x 10) (ahead s) (length s) (ahead-le s)

pub here : (x : ℕ) (s : List ℕ) → x ≡ 10 → ahead (x ∷ s) ≡ 0
unfolding ahead
here x s e = rw (eq-eqb x 10 e) refl

pub later : (x : ℕ) (s : List ℕ) → (x ≡ 10 → ⊥) → ahead (x ∷ s) ≡ suc (ahead s)
unfolding ahead
later x s e = rw (ne_eqb x 10 e) refl

-- a newline at i is the first from i on
pub newline-here : (s : List ℕ) (i : ℕ) → i < length s → get_or s i 0 ≡ 10 → newline_from s i ≡ i
unfolding newline_from
newline-here s i h e =
    let z : ahead (drop i s) ≡ 0 = ap ahead (drop-cons s i 0 h) ∙ here (get_or s i 0) (drop (suc i) s) e in
    omega (arith, z)

-- past any other character, the first newline is the same
pub newline-later : (s : List ℕ) (i : ℕ) → i < length s → (get_or s i 0 ≡ 10 → ⊥) → newline_from s (i + 1) ≡ newline_from s i
unfolding newline_from
newline-later s i h e =
    let z : ahead (drop i s) ≡ suc (ahead (drop (suc i) s)) =
    ap ahead (drop-cons s i 0 h) ∙ later (get_or s i 0) (drop (suc i) s) e in
    rw (add-one i) (omega (arith, z))

pub newline-none : (s : List ℕ) (i : ℕ) → length s ≤ i → newline_from s i ≡ i
unfolding newline_from
newline-none s i h = omega (arith, ahead-le (drop i s), length-drop i s)

-- for a loop that looks for the next newline
pub ruleset newline_steps = (newline-here, newline-later, newline-none)

pub newline-le : (s : List ℕ) (at : ℕ) → at ≤ length s → newline_from s at ≤ length s
unfolding newline_from
newline-le s at h = omega (arith, ahead-le (drop at s), length-drop at s)

pub at-newline : (s : List ℕ) (at : ℕ) → at ≤ newline_from s at
unfolding newline_from
at-newline s at = omega arith

pub chars-length : (s : List ℕ) (at : ℕ) → at + length (chars_at s at) ≡ newline_from s at
unfolding newline_from chars_at
chars-length s at = ap (λ (n : ℕ). at + n) (length-take-le (ahead (drop at s)) (drop at s) (ahead-le (drop at s)))

pub chars-none : (s : List ℕ) (at : ℕ) → length s ≤ at → [] ≡ chars_at s at
unfolding ahead chars_at
chars-none s at h = rw (drop_of_length-le s h) refl

pub chars-part : (s : List ℕ) (at : ℕ) → take (newline_from s at - at) (drop at s) ≡ chars_at s at
unfolding newline_from chars_at
chars-part s at =
    let z : (at + ahead (drop at s)) - at ≡ ahead (drop at s) = omega arith in
    ap (λ (n : ℕ). take n (drop at s)) z

-- where the text goes on: never back, past a newline, or nowhere
pub past-line : (s : List ℕ) (at : ℕ) → newline_from s at < length s → newline_from s at + 1 ≡ past_at s at
past-line s at h = rw (lt-ltb (newline_from s at) (length s) h) refl

pub past-rest : (s : List ℕ) (at : ℕ) → length s ≤ newline_from s at → newline_from s at ≡ past_at s at
past-rest s at h = rw (le-ltb (newline_from s at) (length s) h) refl

pub at-past : (s : List ℕ) (at : ℕ) → at ≤ past_at s at
at-past s at = go (ltb (newline_from s at) (length s))
  where
    go : (b : Bool) → at ≤ cond b (newline_from s at + 1) (newline_from s at)
    go true = omega (arith, at-newline s at)
    go false = at-newline s at
