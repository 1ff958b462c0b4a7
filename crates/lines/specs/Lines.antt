-- The lines of a text that is held whole: where the newline (10) stands, and what stands before it.
use Rattle.std.specs.Prelude.{cond, List, [], ◌∷◌, ℕ, zero, suc, ◌+◌, eqb, ltb, length, take, drop}

-- how many characters stand before the first newline; all, where there is none
unfoldable pub ahead : List ℕ → ℕ
ahead [] = zero
ahead (x ∷ s) = cond (eqb x 10) zero (suc (ahead s))

-- the place of the first newline at or past a position, or the end of the text; a position past the end is given back
unfoldable pub newline_from : List ℕ → ℕ → ℕ
newline_from s at = at + ahead (drop at s)

-- the characters at a position up to the first newline, or to the end
unfoldable pub chars_at : List ℕ → ℕ → List ℕ
chars_at s at = take (ahead (drop at s)) (drop at s)

-- where the text goes on: past that newline, or at the end where there is none
abbrev pub past_at : List ℕ → ℕ → ℕ
past_at s at =
    let n = newline_from s at in
    cond (ltb n (length s)) (n + 1) n
