-- The lines of a whole text, as document 01 counts them: "at most 64 characters before its newline. A longer line, an empty one, or a last
-- one lacking its newline is malformed and gets one answer; empty input gets none."
use Rattle.std.specs.Prelude.{cond, List, [], ◌∷◌, ◌++◌, ℕ, zero, suc, eqb, leb, length}

-- a line's characters, none where it is empty; a line of more than 64; a last one that lacks its newline
pub data Line : Type 0 where
  whole : List ℕ → Line
  long : Line
  cut : Line

-- the line that a newline ends
unfoldable pub line_of : List ℕ → Line
line_of a = cond (leb (length a) 64) (whole a) long

-- what the end of the text makes of the characters since the last newline
unfoldable pub last_of : List ℕ → List Line
last_of [] = []
last_of (x ∷ a) = cut ∷ []

-- the lines of a text, after the characters a of a line that has begun
unfoldable pub lines_from : List ℕ → List ℕ → List Line
lines_from a [] = last_of a
lines_from a (x ∷ s) = cond (eqb x 10) (line_of a ∷ lines_from [] s) (lines_from (a ++ x ∷ []) s)

abbrev pub lines_of : List ℕ → List Line
lines_of s = lines_from [] s

-- how many newlines a text has
unfoldable pub newlines : List ℕ → ℕ
newlines [] = zero
newlines (x ∷ s) = cond (eqb x 10) (suc (newlines s)) (newlines s)

-- the text that chunks make
unfoldable pub joined_lines : List (List ℕ) → List ℕ
joined_lines [] = []
joined_lines (c ∷ cs) = c ++ joined_lines cs
