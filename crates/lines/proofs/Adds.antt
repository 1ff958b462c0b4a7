-- What more characters make of a pending line. Rests on specs/Stream alone.
use mathlib.Core.Path.{◌≡◌, refl, ap, ◌∙◌}
use mathlib.Core.Bool.{Bool, true, false, cond}
use mathlib.Core.List.{List, [], ◌∷◌, ◌++◌}
use Prim.Native.Nat.{ℕ, ◌+◌, ◌-◌, ◌≤◌, ◌<◌}
use native.Mathlib.Numerals.{add-one}
use native.Mathlib.Omega.{arith}
use lib.Dec.{ltb}
use lib.ListN.{length, drop, get_or, drop_of_length-le}
use lib.Seq.{drop-cons}
use Rattle.lines.specs.declared.stream.Pending.{Pending}
use Rattle.lines.specs.declared.stream.Event.TheVariants.{Whole, Long, More}
use Rattle.lines.specs.Lines.{newline_from, chars_at, past_at}
use Rattle.lines.proofs.Ahead.{chars-length}
use Rattle.lines.specs.Stream.{add_char, adds, step_of, take_of}

-- a line that is too long stays as it is
add-over : (p : Pending) (x : ℕ) → p.over ≡ true → add_char p x ≡ p
unfolding add_char
add-over p x o = rw o refl

pub adds-over : (p : Pending) (s : List ℕ) → p.over ≡ true → adds p s ≡ p
unfolding adds
adds-over p [] o = refl
adds-over p (x ∷ s) o = ap (λ (q : Pending). adds q s) (add-over p x o) ∙ adds-over p s o

pub adds-next : (p : Pending) (s : List ℕ) (i : ℕ) → i < length s → adds (add_char p (get_or s i 0)) (drop (i + 1) s) ≡ adds p (drop i s)
unfolding adds
adds-next p s i h = rw (add-one i, drop-cons s i 0 h) refl

pub adds_none : (p : Pending) (s : List ℕ) (i : ℕ) → length s ≤ i → adds p (drop i s) ≡ p
unfolding adds
adds_none p s i h = rw (drop_of_length-le s h) refl

pub adds_one : (p : Pending) (x : ℕ) → adds p (x ∷ []) ≡ add_char p x
unfolding adds
adds_one p x = refl

pub adds-append : (p : Pending) (a b : List ℕ) → adds p (a ++ b) ≡ adds (adds p a) b
unfolding adds
adds-append p [] b = refl
adds-append p (x ∷ a) b = adds-append (add_char p x) a b

-- a step: the characters of the chunk there, what is pending with them, and where the text goes on
pub record Step : Type 0 where
  pub p : Pending
  pub chunk : List ℕ
  pub at : ℕ
  pub chars : List ℕ
  pub q : Pending
  pub n : ℕ
  pub are : chars ≡ chars_at chunk at
  pub made : q ≡ adds p chars
  pub there : n ≡ past_at chunk at

-- its cases: how far the text goes on tells whether a newline stands behind the characters
module _ (s : Step) where
  abbrev end : ℕ
  end = newline_from s.chunk s.at

  grown : s.q ≡ adds s.p (chars_at s.chunk s.at)
  grown = s.made ∙ ap (adds s.p) s.are

  reach : s.at + length s.chars ≡ end
  reach = ap (λ (l : List ℕ). s.at + length l) s.are ∙ chars-length s.chunk s.at

  far : (b : Bool) → ltb end (length s.chunk) ≡ b → s.n ≡ cond b (end + 1) end
  far b e = s.there ∙ ap (λ (c : Bool). cond c (end + 1) end) e

  none : s.n - s.at ≤ length s.chars → (b : Bool) → ltb end (length s.chunk) ≡ b → b ≡ false
  none h true e = absurd (omega (arith, far true e, reach))
  none h false e = refl

  newline : length s.chars < s.n - s.at → (b : Bool) → ltb end (length s.chunk) ≡ b → b ≡ true
  newline h true e = refl
  newline h false e = absurd (omega (arith, far false e, reach))

  pub took-all : s.n - s.at ≤ length s.chars → step_of s.q s.n More ≡ take_of s.p s.chunk s.at
  unfolding take_of
  took-all h = rw (← s.there, ← grown, none h (ltb end (length s.chunk)) refl) refl

  pub took-long : length s.chars < s.n - s.at → s.q.over ≡ true → step_of s.q s.n Long ≡ take_of s.p s.chunk s.at
  unfolding take_of
  took-long h o = rw (← s.there, ← grown, newline h (ltb end (length s.chunk)) refl, o) refl

  pub took-line : length s.chars < s.n - s.at → s.q.over ≡ false → step_of s.q s.n Whole ≡ take_of s.p s.chunk s.at
  unfolding take_of
  took-line h o = rw (← s.there, ← grown, newline h (ltb end (length s.chunk)) refl, o) refl
