-- An answer's line in its room: how long it is, and that its characters are those that stand first. Rests on the frames' `AnswerPut`.
use mathlib.Core.Path.{◌≡◌, sym, ap, ◌∙◌}
use mathlib.Core.List.{List, [], ◌∷◌}
use Prim.Native.Nat.{ℕ, zero, suc, ◌+◌, ◌*◌, ◌≤◌}
use native.Mathlib.Nat.{mul-suc}
use native.Mathlib.Omega.{arith}
use lib.ListN.{length, take, drop, replicate, length-append, length-replicate}
use lib.Seq.{sets, sets-eq, take_at}
use Rattle.frames.specs.Bytes.{chars_of, check_of, framed}
use Rattle.frames.specs.Answers.{Answer, each, content_of, answer_line}
use Rattle.frames.specs.Writing.{AnswerPut}
use Rattle.frames.proofs.Lists.{length-chars}
use Rattle.session.specs.Session.{longest, Says}

-- what was stored from the first place on stands first
pub take-sets : (vs l : List ℕ) (n : ℕ) → length vs ≡ n → n ≤ length l → take n (sets l 0 vs) ≡ vs
take-sets vs l n e h =
    ap (take n) (sets-eq vs l 0 (omega arith)) ∙ take_at vs (drop (0 + length vs) l) n e

-- two characters a byte, the check's among them, and a newline
pub length-line : (a : Answer) → length (answer_line a) ≡ 2 * length (content_of a) + 3
length-line a =
    let bs = content_of a in
    let content = framed bs in
    omega (arith, length-append (chars_of content) (10 ∷ []), length-chars content, length-append bs (check_of bs ∷ []))

-- at most n entries of a list, k bytes each
module _ {A : Type 0} (bytes : A → List ℕ) (k : ℕ) (same : (x : A) → length (bytes x) ≡ k) where
  pub each-most : (xs : List A) (n : ℕ) → length (each bytes (take n xs)) ≤ k * n
  unfolding each
  each-most xs zero = omega arith
  each-most [] (suc n) = omega arith
  each-most (x ∷ xs) (suc n) =
      omega (arith, length-append (bytes x) (each bytes (take n xs)), same x, each-most xs n, mul-suc k n)

-- what `write` left in a line of zeros
pub said : {line : List ℕ} {n : ℕ} (a : Answer) → 2 * length (content_of a) + 3 ≤ longest → AnswerPut (replicate longest 0) a line n
    → Says a (record { line = line; count = n })
said {line} {n} a room w =
    record {
      count = w.count;
      written =
          ap (take n) w.line
          ∙ take-sets (answer_line a) (replicate longest 0) n (sym w.count)
          (omega (arith, w.count, length-line a, length-replicate {A = ℕ} longest 0));
      padded = w.line;
    }
