-- The laws of the format: the check, hexadecimal there and back, and that what fits its fields is made of bytes.
use Rattle.std.proofs.Common.{◌≡◌, ℕ, ◌+◌, ◌/◌, ◌%◌, ◌^◌, ◌<◌, ◌≤◌, Bool, true, false, ◌&&◌, ltb, List, [], ◌∷◌, ◌++◌, sym, refl, ◌∙◌, arith, ltb-false, ltb-true, le-ltb, lt-ltb}
use Rattle.hexadecimal.specs.Hex.{digit_of, letter_of, pair_of}
use Rattle.hexadecimal.proofs.Pairs.{both-good}
use Rattle.frames.specs.Bytes.{pairs, all_bytes, chars_of, total, check_of, framed, two, four, eight}
use Rattle.frames.proofs.Lists.{total-append, all_append}

-- ---- the check: the bytes of every frame add to 0
pub framed-adds : (bs : List ℕ) → total (framed bs) % 256 ≡ 0
unfolding total
framed-adds bs = omega (arith, total-append bs (check_of bs ∷ []))

-- ---- hexadecimal there and back
pub by-test : {P : Type 0} (b : Bool) → (b ≡ true → P) → (b ≡ false → P) → P
by-test true t f = t refl
by-test false t f = f refl

digit : (d : ℕ) → d < 10 → digit_of (d + 48) ≡ d
unfolding digit_of
digit d h = rw (le-ltb (d + 48) 48 (omega arith), lt-ltb (d + 48) 58 (omega arith)) (omega arith)

letter : (d : ℕ) → 10 ≤ d → d < 16 → digit_of (d + 87) ≡ d
unfolding digit_of
letter d l h =
    rw (
      le-ltb (d + 87) 48 (omega arith),
      le-ltb (d + 87) 58 (omega arith),
      le-ltb (d + 87) 97 (omega arith),
      lt-ltb (d + 87) 103 (omega arith),
    ) (omega arith)

pub digit-letter : (d : ℕ) → d < 16 → digit_of (letter_of d) ≡ d
unfolding letter_of
digit-letter d h =
    by-test (ltb d 10) (λ e. rw e (digit d (ltb-true d 10 e))) (λ e. rw e (letter d (ltb-false d 10 e) h))

pub pair-letters : (b : ℕ) → b < 256 → pair_of (letter_of (b / 16)) (letter_of (b % 16)) ≡ b
pair-letters b h =
    let e = digit-letter (b / 16) (omega arith) in
    let f = digit-letter (b % 16) (omega arith) in
    sym (both-good (letter_of (b / 16)) (letter_of (b % 16)) (omega arith) (omega arith)) ∙ rw (e, f) (omega arith)

pub first-true : (a b : Bool) → (a && b) ≡ true → a ≡ true
first-true true b e = refl
first-true false b e = e

pub second-true : (a b : Bool) → (a && b) ≡ true → b ≡ true
second-true true b e = e
second-true false b e = absurd (let z : ◌≡◌ {A = ℕ} 0 1 = cc in omega arith)

pub pairs-chars : (bs : List ℕ) → all_bytes bs ≡ true → pairs (chars_of bs) ≡ bs
unfolding pairs chars_of all_bytes
pairs-chars [] e = refl
pairs-chars (b ∷ bs) e =
    let small = ltb-true b 256 (first-true (ltb b 256) (all_bytes bs) e) in
    rw (pair-letters b small, pairs-chars bs (second-true (ltb b 256) (all_bytes bs) e)) refl

-- ---- what fits its fields is made of bytes
pub record AreBytes (bs : List ℕ) : Type 0 where
  pub tested : all_bytes bs ≡ true

pub no_bytes : AreBytes []
unfolding all_bytes
no_bytes = record { tested = refl }

pub then : {b : ℕ} {bs : List ℕ} → b < 256 → AreBytes bs → AreBytes (b ∷ bs)
unfolding all_bytes
then {b} {bs} h e = record { tested = rw (lt-ltb b 256 h) e.tested }

pub join : {a b : List ℕ} → AreBytes a → AreBytes b → AreBytes (a ++ b)
join {a} {b} e f = record { tested = all_append a b ∙ rw (e.tested, f.tested) refl }

pub are-two : (n : ℕ) → n < 2 ^ 16 → AreBytes (two n)
are-two n h = then (omega arith) (then (omega arith) no_bytes)

pub are-four : (n : ℕ) → n < 2 ^ 32 → AreBytes (four n)
are-four n h = join (are-two (n / 65536) (omega arith)) (are-two (n % 65536) (omega arith))

pub are-eight : (n : ℕ) → n < 2 ^ 64 → AreBytes (eight n)
are-eight n h = join (are-four (n / 4294967296) (omega arith)) (are-four (n % 4294967296) (omega arith))

pub are-framed : {bs : List ℕ} → AreBytes bs → AreBytes (framed bs)
are-framed e = join e (then (omega arith) no_bytes)
