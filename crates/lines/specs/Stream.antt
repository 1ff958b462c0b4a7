-- The lines of a text that arrives in chunks: what one step takes, what the steps over a chunk give, and what all chunks give.
-- Document 01: "at most 64 characters before its newline. A longer line, an empty one, or a last one lacking its newline is malformed".
use Rattle.std.specs.Prelude.{Bool, true, false, cond, List, [], ◌∷◌, ◌++◌, ℕ, zero, suc, ◌+◌, ltb, length, take, set, replicate}
use Rattle.lines.specs.Lines.{newline_from, chars_at, past_at}
use Rattle.lines.specs.Text.{Line, whole, long, cut}
use Rattle.lines.specs.declared.stream.Pending.{Pending}
use Rattle.lines.specs.declared.stream.Taken.{Taken}
use Rattle.lines.specs.declared.stream.Event.{Event}
use Rattle.lines.specs.declared.stream.Event.TheVariants.{Whole, Long, More}

unfoldable pub empty : Pending
empty = record { bytes = replicate 64 0; count = 0; over = false }

-- one more character of the line: stored while there is room, and with no room the line is too long
unfoldable pub add_char : Pending → ℕ → Pending
add_char p x =
    cond p.over p
    (cond (ltb p.count 64) (record { bytes = set p.bytes p.count x; count = p.count + 1; over = p.over })
    (record { bytes = p.bytes; count = p.count; over = true }))

unfoldable pub adds : Pending → List ℕ → Pending
adds p [] = p
adds p (x ∷ s) = adds (add_char p x) s

abbrev pub step_of : Pending → ℕ → Event → Taken
step_of p n e = record { pending = p; next = n; event = e }

-- one step: the characters up to the newline, or to the end of the chunk, are added; with the newline the line is whole
unfoldable pub take_of : Pending → List ℕ → ℕ → Taken
take_of p chunk at =
    let q = adds p (chars_at chunk at) in
    let b = ltb (newline_from chunk at) (length chunk) in
    step_of q (past_at chunk at) (cond b (cond q.over Long Whole) More)

-- at the end of the input: a last line lacks its newline
abbrev pub unfinished : Pending → Bool
unfinished p = ltb 0 p.count

-- what the steps over a chunk give: the lines that became whole, and what is pending after it
pub record Fed : Type 0 where
  pub lines : List Line
  pub left : Pending

-- no line; a line, and then what follows it; what one chunk gives, and then the next
abbrev pub still : Pending → Fed
still p = record { lines = []; left = p }

abbrev pub onward : Line → Fed → Fed
onward l r = record { lines = l ∷ r.lines; left = r.left }

abbrev pub followed : Fed → Fed → Fed
followed f r = record { lines = f.lines ++ r.lines; left = r.left }

-- what a step gives, before those that follow it
unfoldable pub fed_with : Event → Pending → Fed → Fed
fed_with Whole p r = onward (whole (take p.count p.bytes)) r
fed_with Long p r = onward long r
fed_with More p r = still p

-- at most so many steps from a position: a line is handed on, and nothing is pending after it, until the chunk is used up
unfoldable pub steps : ℕ → Pending → List ℕ → ℕ → Fed
steps zero p chunk at = still p
steps (suc n) p chunk at =
    let t = take_of p chunk at in
    let r = steps n empty chunk t.next in
    fed_with t.event t.pending r

-- a chunk of n characters is used up in at most n + 1 steps
unfoldable pub feed : Pending → List ℕ → Fed
feed p chunk = steps (suc (length chunk)) p chunk 0

-- the lines that became whole in a run of chunks, and what is pending then
unfoldable pub feeds : Pending → List (List ℕ) → Fed
feeds p [] = still p
feeds p (c ∷ cs) =
    let f = feed p c in
    let r = feeds f.left cs in
    followed f r

-- the end of the input
unfoldable pub ended : Pending → List Line
ended p = cond (unfinished p) (cut ∷ []) []

-- every line that the chunks and then the end of the input give
unfoldable pub lines_given : List (List ℕ) → List Line
lines_given cs = (feeds empty cs).lines ++ ended (feeds empty cs).left
