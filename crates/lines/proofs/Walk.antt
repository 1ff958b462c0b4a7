-- A reader that walks a whole text meets its lines, one after another: what it hands on at a position, and the lines past it, are what `lines_of` has there.
-- Rests on specs/ and on Ahead.
use mathlib.Core.Path.{◌≡◌, refl, ap, ◌∙◌}
use mathlib.Core.Bool.{Bool, true, false, cond}
use mathlib.Core.List.{List, [], ◌∷◌, ◌++◌, append-nil}
use Prim.Native.Nat.{ℕ, zero, suc, ◌+◌, ◌≤◌, ◌<◌}
use native.Mathlib.Omega.{arith}
use lib.Dec.{eqb}
use lib.ListN.{length, take, drop, length-drop, drop_of_length-le}
use lib.Seq.{append_snoc, drop-drop, drop-cons}
use Rattle.lines.specs.Lines.{ahead, newline_from, chars_at, past_at}
use Rattle.lines.specs.Text.{cut, line_of, last_of, lines_from, lines_of}
use Rattle.lines.proofs.Ahead.{past-line}

-- a line of the text, after the characters a
from-line : (a s : List ℕ) → ahead s < length s → lines_from a s ≡ line_of (a ++ take (ahead s) s) ∷ lines_of (drop (suc (ahead s)) s)
unfolding ahead lines_from
from-line a [] h = absurd (omega arith)
from-line a (x ∷ s) h = go (eqb x 10) h (λ g. from-line (a ++ x ∷ []) s g)
  where
    go : (b : Bool) → cond b zero (suc (ahead s)) < suc (length s)
        → (ahead s < length s → lines_from (a ++ x ∷ []) s ≡ line_of ((a ++ x ∷ []) ++ take (ahead s) s) ∷ lines_of (drop (suc (ahead s)) s))
        → cond b (line_of a ∷ lines_from [] s) (lines_from (a ++ x ∷ []) s)
        ≡ line_of (a ++ take (cond b zero (suc (ahead s))) (x ∷ s)) ∷ lines_of (drop (suc (cond b zero (suc (ahead s)))) (x ∷ s))
    go true h more = rw (append-nil a) refl
    go false h more = rw (← append_snoc a x (take (ahead s) s)) (more (omega arith))

-- what has no newline
from-rest : (a s : List ℕ) → length s ≤ ahead s → lines_from a s ≡ last_of (a ++ s)
unfolding ahead lines_from
from-rest a [] h = rw (append-nil a) refl
from-rest a (x ∷ s) h = go (eqb x 10) h (λ g. from-rest (a ++ x ∷ []) s g)
  where
    go : (b : Bool) → suc (length s) ≤ cond b zero (suc (ahead s)) → (length s ≤ ahead s → lines_from (a ++ x ∷ []) s ≡ last_of ((a ++ x ∷ []) ++ s))
        → cond b (line_of a ∷ lines_from [] s) (lines_from (a ++ x ∷ []) s) ≡ last_of (a ++ x ∷ s)
    go true h more = absurd (omega arith)
    go false h more = rw (← append_snoc a x s) (more (omega arith))

-- the three cases of the line finder: a line and those after it; a last one that lacks its newline; the end
pub walk-line : (s : List ℕ) (at : ℕ) → newline_from s at < length s
    → lines_of (drop at s) ≡ line_of (chars_at s at) ∷ lines_of (drop (past_at s at) s)
unfolding newline_from chars_at
walk-line s at h =
    let t = drop at s in
    let m : at + ahead t + 1 ≡ at + suc (ahead t) = omega arith in
    rw (← past-line s at h, m, ← drop-drop (suc (ahead t)) at s) (from-line [] t (omega (arith, length-drop at s)))

pub walk-rest : (s : List ℕ) (at : ℕ) → at < length s → length s ≤ newline_from s at → lines_of (drop at s) ≡ cut ∷ []
unfolding newline_from last_of
walk-rest s at l h =
    from-rest [] (drop at s) (omega (arith, length-drop at s)) ∙ ap last_of (drop-cons s at 0 l)

pub walk_end : (s : List ℕ) (at : ℕ) → length s ≤ at → lines_of (drop at s) ≡ []
unfolding lines_from last_of
walk_end s at h = rw (drop_of_length-le s h) refl
