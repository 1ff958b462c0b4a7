-- The lines that a text gives do not depend on how it is cut into chunks: the steps over a chunk do what one character after another
-- does, and so the steps over two chunks do what those over the two joined do. Rests on specs/ and on Held, what is pending.
use mathlib.Core.Path.{◌≡◌, refl, sym, ap, ap₂, ◌∙◌}
use mathlib.Core.Bool.{Bool, true, false, cond}
use mathlib.Core.List.{List, [], ◌∷◌, ◌++◌}
use Prim.Native.Nat.{ℕ, zero, suc, ◌+◌, ◌≤◌, ◌<◌}
use native.Mathlib.Omega.{arith}
use lib.Dec.{eqb, ltb}
use lib.ListN.{length, take, drop, length-drop, drop_of_length-le}
use lib.Seq.{drop-drop}
use borrow.Author.Tests.{lt-ltb, ltb-true, ltb-false}
use Rattle.lines.specs.declared.stream.Pending.{Pending}
use Rattle.lines.specs.declared.stream.Event.TheVariants.{Whole, Long, More}
use Rattle.lines.specs.Lines.{ahead, newline_from, chars_at}
use Rattle.lines.specs.Text.{Line, line_of, lines_from, lines_of, newlines, joined_lines}
use Rattle.lines.specs.Stream.{empty, add_char, adds, take_of, Fed, still, onward, followed, fed_with, steps, feed, feeds, ended, lines_given}
use Rattle.lines.proofs.Ahead.{at-newline}
use Rattle.lines.proofs.Adds.{adds-append, adds_one}
use Rattle.lines.proofs.Held.{line_in, line-in, last-in}

-- one character after another: the lines that become whole, and what is pending
passed : Pending → List ℕ → List Line
passed p [] = []
passed p (x ∷ s) = cond (eqb x 10) (line_in p ∷ passed empty s) (passed (add_char p x) s)

after : Pending → List ℕ → Pending
after p [] = p
after p (x ∷ s) = cond (eqb x 10) (after empty s) (after (add_char p x) s)

abbrev slow : Pending → List ℕ → Fed
slow p s = record { lines = passed p s; left = after p s }

-- both, by whether the character is a newline
abbrev pick : Bool → Pending → ℕ → List ℕ → Fed
pick b p x s =
    record { lines = cond b (line_in p ∷ passed empty s) (passed (add_char p x) s); left = cond b (after empty s) (after (add_char p x) s) }

-- up to the first newline
to-line : (p : Pending) (s : List ℕ) → ahead s < length s
    → slow p s ≡ onward (line_in (adds p (take (ahead s) s))) (slow empty (drop (suc (ahead s)) s))
unfolding ahead adds passed after
to-line p [] h = absurd (omega arith)
to-line p (x ∷ s) h = go (eqb x 10) h (λ g. to-line (add_char p x) s g)
  where
    go : (b : Bool) → cond b zero (suc (ahead s)) < suc (length s)
        → (ahead s < length s → slow (add_char p x) s ≡ onward (line_in (adds (add_char p x) (take (ahead s) s))) (slow empty (drop (suc (ahead s)) s)))
        → pick b p x s
        ≡ onward (line_in (adds p (take (cond b zero (suc (ahead s))) (x ∷ s)))) (slow empty (drop (suc (cond b zero (suc (ahead s)))) (x ∷ s)))
    go true h more = refl
    go false h more = more (omega arith)

-- with no newline
to_end : (p : Pending) (s : List ℕ) → length s ≤ ahead s → slow p s ≡ still (adds p (take (ahead s) s))
unfolding ahead adds passed after
to_end p [] h = refl
to_end p (x ∷ s) h = go (eqb x 10) h (λ g. to_end (add_char p x) s g)
  where
    go : (b : Bool) → suc (length s) ≤ cond b zero (suc (ahead s))
        → (length s ≤ ahead s → slow (add_char p x) s ≡ still (adds (add_char p x) (take (ahead s) s)))
        → pick b p x s ≡ still (adds p (take (cond b zero (suc (ahead s))) (x ∷ s)))
    go true h more = absurd (omega arith)
    go false h more = more (omega arith)

-- the same, from a position of a chunk
slow-line : (p : Pending) (chunk : List ℕ) (at : ℕ) → newline_from chunk at < length chunk
    → slow p (drop at chunk) ≡ onward (line_in (adds p (chars_at chunk at))) (slow empty (drop (newline_from chunk at + 1) chunk))
unfolding newline_from chars_at
slow-line p chunk at h =
    let s = drop at chunk in
    let m : at + ahead s + 1 ≡ at + suc (ahead s) = omega arith in
    rw (m, ← drop-drop (suc (ahead s)) at chunk) (to-line p s (omega (arith, length-drop at chunk)))

slow-rest : (p : Pending) (chunk : List ℕ) (at : ℕ) → length chunk ≤ newline_from chunk at
    → slow p (drop at chunk) ≡ still (adds p (chars_at chunk at))
unfolding newline_from chars_at
slow-rest p chunk at h = to_end p (drop at chunk) (omega (arith, length-drop at chunk))

slow-none : (p : Pending) (chunk : List ℕ) (at : ℕ) → length chunk ≤ at → slow p (drop at chunk) ≡ still p
unfolding passed after
slow-none p chunk at h = rw (drop_of_length-le chunk h) refl

-- a step hands the line on that is pending after it
given-line : (b : Bool) (q : Pending) (r : Fed) → q.over ≡ b → fed_with (cond b Long Whole) q r ≡ onward (line_in q) r
unfolding fed_with line_in
given-line true q r o = rw o refl
given-line false q r o = rw o refl

given-rest : (q : Pending) (r : Fed) → fed_with More q r ≡ still q
unfolding fed_with
given-rest q r = refl

next-line : (p : Pending) (chunk : List ℕ) (at : ℕ) → newline_from chunk at < length chunk → (take_of p chunk at).next ≡ newline_from chunk at + 1
unfolding take_of
next-line p chunk at h = rw (lt-ltb (newline_from chunk at) (length chunk) h) refl

-- one step, and then one character after another
step-slow : (p : Pending) (chunk : List ℕ) (at : ℕ) (r : Fed)
    → (newline_from chunk at < length chunk → r ≡ slow empty (drop (take_of p chunk at).next chunk))
    → fed_with (take_of p chunk at).event (take_of p chunk at).pending r ≡ slow p (drop at chunk)
unfolding take_of
step-slow p chunk at r more = go (ltb (newline_from chunk at) (length chunk)) refl
  where
    go : (b : Bool) → ltb (newline_from chunk at) (length chunk) ≡ b
        → fed_with (cond b (cond (adds p (chars_at chunk at)).over Long Whole) More) (adds p (chars_at chunk at)) r ≡ slow p (drop at chunk)
    go true e =
        let l = ltb-true (newline_from chunk at) (length chunk) e in
        let q = adds p (chars_at chunk at) in
        let m = more l ∙ ap (λ (n : ℕ). slow empty (drop n chunk)) (next-line p chunk at l) in
        given-line q.over q r refl ∙ ap (onward (line_in q)) m ∙ sym (slow-line p chunk at l)
    go false e =
        given-rest (adds p (chars_at chunk at)) r ∙ sym (slow-rest p chunk at (ltb-false (newline_from chunk at) (length chunk) e))

-- enough steps
steps-slow : (n : ℕ) (p : Pending) (chunk : List ℕ) (at : ℕ) → length chunk < at + n → steps n p chunk at ≡ slow p (drop at chunk)
unfolding steps
steps-slow zero p chunk at h = sym (slow-none p chunk at (omega arith))
steps-slow (suc n) p chunk at h =
    step-slow p chunk at (steps n empty chunk (take_of p chunk at).next)
    (λ l. steps-slow n empty chunk (take_of p chunk at).next (omega (arith, next-line p chunk at l, at-newline chunk at)))

feed-slow : (p : Pending) (chunk : List ℕ) → feed p chunk ≡ slow p chunk
unfolding feed
feed-slow p chunk = steps-slow (suc (length chunk)) p chunk 0 (omega arith)

-- for a loop over a chunk: what is left of it gives what one step gives and then what is left after that; and at its end, nothing
pub feed-step : (p : Pending) (chunk : List ℕ) (at : ℕ)
    → feed p (drop at chunk) ≡ fed_with (take_of p chunk at).event (take_of p chunk at).pending (feed empty (drop (take_of p chunk at).next chunk))
feed-step p chunk at =
    let next = drop (take_of p chunk at).next chunk in
    feed-slow p (drop at chunk) ∙ sym (step-slow p chunk at (feed empty next) (λ l. feed-slow empty next))

pub feed-none : (p : Pending) (chunk : List ℕ) (at : ℕ) → length chunk ≤ at → feed p (drop at chunk) ≡ still p
feed-none p chunk at h = feed-slow p (drop at chunk) ∙ slow-none p chunk at h

slow-append : (p : Pending) (a b : List ℕ) → slow p (a ++ b) ≡ followed (slow p a) (slow (after p a) b)
unfolding passed after
slow-append p [] b = refl
slow-append p (x ∷ a) b = go (eqb x 10) (slow-append empty a b) (slow-append (add_char p x) a b)
  where
    go : (c : Bool) → slow empty (a ++ b) ≡ followed (slow empty a) (slow (after empty a) b)
        → slow (add_char p x) (a ++ b) ≡ followed (slow (add_char p x) a) (slow (after (add_char p x) a) b)
        → pick c p x (a ++ b) ≡ followed (pick c p x a) (slow (pick c p x a).left b)
    go true e f = ap (onward (line_in p)) e
    go false e f = f

-- a chunk may be cut in two: what is pending after the first part goes into the second
pub feed-append : (p : Pending) (a b : List ℕ) → feed p (a ++ b) ≡ followed (feed p a) (feed (feed p a).left b)
feed-append p a b = rw (feed-slow p (a ++ b), feed-slow p a, feed-slow (after p a) b) (slow-append p a b)

-- a run of chunks gives what the text gives that they make
pub feeds-joined : (p : Pending) (cs : List (List ℕ)) → feeds p cs ≡ feed p (joined_lines cs)
unfolding feeds joined_lines
feeds-joined p [] = sym (feed-none p [] 0 (omega arith))
feeds-joined p (c ∷ cs) = ap (followed (feed p c)) (feeds-joined (feed p c).left cs) ∙ sym (feed-append p c (joined_lines cs))

-- the lines of the text after the characters a, which are pending
slow-lines : (a s : List ℕ) → passed (adds empty a) s ++ ended (after (adds empty a) s) ≡ lines_from a s
unfolding passed after lines_from adds
slow-lines a [] = last-in a
slow-lines a (x ∷ s) = go (eqb x 10) (slow-lines [] s) (slow-lines (a ++ x ∷ []) s)
  where
    go : (b : Bool) → passed empty s ++ ended (after empty s) ≡ lines_from [] s
        → passed (adds empty (a ++ x ∷ [])) s ++ ended (after (adds empty (a ++ x ∷ [])) s) ≡ lines_from (a ++ x ∷ []) s
        → (pick b (adds empty a) x s).lines ++ ended (pick b (adds empty a) x s).left
        ≡ cond b (line_of a ∷ lines_from [] s) (lines_from (a ++ x ∷ []) s)
    go true e f = ap₂ (λ (l : Line) (r : List Line). l ∷ r) (line-in a) e
    go false e f = rw (← adds_one (adds empty a) x, ← adds-append empty a (x ∷ [])) f

-- one chunk, the whole text
pub feed-lines : (s : List ℕ) → (feed empty s).lines ++ ended (feed empty s).left ≡ lines_of s
unfolding adds
feed-lines s = rw (feed-slow empty s) (slow-lines [] s)

-- THE LAW: whatever the chunks, they and the end of the input give the lines of the text that they make
pub lines-given : (cs : List (List ℕ)) → lines_given cs ≡ lines_of (joined_lines cs)
unfolding lines_given
lines-given cs = rw (feeds-joined empty cs) (feed-lines (joined_lines cs))

-- so two cuttings of a text give the same
pub cut-anyhow : (cs ds : List (List ℕ)) → joined_lines cs ≡ joined_lines ds → lines_given cs ≡ lines_given ds
cut-anyhow cs ds e = lines-given cs ∙ ap lines_of e ∙ sym (lines-given ds)

-- and a line is given with the chunk that brings its newline: by then as many are given as newlines have come
slow-count : (p : Pending) (s : List ℕ) → length (passed p s) ≡ newlines s
unfolding passed newlines
slow-count p [] = refl
slow-count p (x ∷ s) = go (eqb x 10) (slow-count empty s) (slow-count (add_char p x) s)
  where
    go : (b : Bool) → length (passed empty s) ≡ newlines s → length (passed (add_char p x) s) ≡ newlines s
        → length (pick b p x s).lines ≡ cond b (suc (newlines s)) (newlines s)
    go true e f = ap suc e
    go false e f = f

pub given-at-once : (p : Pending) (cs : List (List ℕ)) → length (feeds p cs).lines ≡ newlines (joined_lines cs)
given-at-once p cs = rw (feeds-joined p cs, feed-slow p (joined_lines cs)) (slow-count p (joined_lines cs))
