-- Document 01's cases of a line, computed: no input, an empty line, a last line that lacks its newline, 64 and 65 characters, and that no
-- character but the newline ends a line.
use mathlib.Core.Path.{◌≡◌, refl}
use mathlib.Core.List.{[], ◌∷◌, ◌++◌}
use lib.ListN.{replicate}
use Rattle.lines.specs.Text.{whole, long, cut, line_of, last_of, lines_from, lines_of}

pub no-input : lines_of [] ≡ []
unfolding lines_from last_of
no-input = refl

pub empty-line : lines_of (10 ∷ []) ≡ whole [] ∷ []
unfolding lines_from last_of line_of
empty-line = refl

pub no-newline : lines_of (97 ∷ 10 ∷ 98 ∷ []) ≡ whole (97 ∷ []) ∷ cut ∷ []
unfolding lines_from last_of line_of
no-newline = refl

pub just-fits : lines_of (replicate 64 97 ++ 10 ∷ []) ≡ whole (replicate 64 97) ∷ []
unfolding lines_from last_of line_of
just-fits = refl

pub one_more : lines_of (replicate 65 97 ++ 10 ∷ []) ≡ long ∷ []
unfolding lines_from last_of line_of
one_more = refl

pub other-ends : lines_of (97 ∷ 13 ∷ 10 ∷ 0 ∷ 10 ∷ []) ≡ whole (97 ∷ 13 ∷ []) ∷ whole (0 ∷ []) ∷ []
unfolding lines_from last_of line_of
other-ends = refl
