-- Document 01, "Counter frames", of the whole counter: each line of the input gets one answer, and neither the answers nor the state depend on
-- how the input was cut into chunks. Rests on specs/Listener and on the laws of `lines`.
use mathlib.Core.Path.{◌≡◌, refl, sym, ap, ◌∙◌}
use mathlib.Core.Bool.{Bool, true, false, cond}
use mathlib.Core.List.{List, ◌++◌}
use Prim.Native.Nat.{ℕ, suc, ◌+◌, ◌≤◌}
use native.Mathlib.Omega.{arith}
use lib.Dec.{ltb}
use lib.ListN.{length, drop}
use borrow.Author.Tests.{ltb-false}
use Rattle.lines.specs.declared.stream.Pending.{Pending}
use Rattle.lines.specs.declared.stream.Event.{Event}
use Rattle.lines.specs.declared.stream.Event.TheVariants.{Whole, Long, More}
use Rattle.lines.specs.Lines.{newline_from, chars_at}
use Rattle.lines.specs.Text.{Line, lines_of, joined_lines}
use Rattle.lines.specs.Stream.{empty, adds, take_of, Fed, still, followed, fed_with, feed, feeds, lines_given}
use Rattle.lines.proofs.Cuts.{feed-step, feed-none, lines-given, cut-anyhow}
use Rattle.frames.specs.Answers.{Answer}
use Rattle.session.specs.declared.Session.{Session}
use Rattle.session.specs.declared.listener.Listener.{Listener}
use Rattle.session.specs.declared.listener.Turn.{Turn}
use Rattle.session.specs.Session.{started}
use Rattle.session.specs.Listener.{RunsBy, Runs, none, more, start_listener, one_step, Ends, Turns, Served}
use Rattle.session.specs.Listener as listener

-- ---- runs, whatever a line asks and what is asked gives
module _ {Q A : Type 0} {asked : Line → Q} {Gives : Session → Q → Session → A → Type 0} where
  -- one run after another
  pub runs_on : {s t u : Session} {ls ms : List Line} {xs ys : List A} → RunsBy asked Gives s ls xs t → RunsBy asked Gives t ms ys u
      → RunsBy asked Gives s (ls ++ ms) (xs ++ ys) u
  runs_on none r = r
  runs_on (more a q) r = more a (runs_on q r)

  -- ONE ANSWER A LINE
  pub one_each : {s u : Session} {ls : List Line} {xs : List A} → RunsBy asked Gives s ls xs u → length xs ≡ length ls
  one_each none = refl
  one_each (more a q) = ap suc (one_each q)

-- ---- a turn, and what is left of the chunk

-- with no newline the step ends at the chunk's end
to_the_end : (p : Pending) (chunk : List ℕ) (at : ℕ) → (take_of p chunk at).event ≡ More → length chunk ≤ (take_of p chunk at).next
unfolding take_of
to_the_end p chunk at h = go (ltb n (length chunk)) (adds p (chars_at chunk at)).over refl h
  where
    n : ℕ
    n = newline_from chunk at

    go : (b o : Bool) → ltb (newline_from chunk at) (length chunk) ≡ b → cond b (cond o Long Whole) More ≡ More
        → length chunk ≤ cond b (newline_from chunk at + 1) (newline_from chunk at)
    go true true e h = let z : ◌≡◌ {A = ℕ} 0 1 = cc in absurd (omega arith)
    go true false e h = let z : ◌≡◌ {A = ℕ} 0 1 = cc in absurd (omega arith)
    go false o e h = ltb-false (newline_from chunk at) (length chunk) e

step_then : (v : Event) (q : Pending) (rest : List ℕ) → (v ≡ More → feed q rest ≡ still q)
    → fed_with v q (feed empty rest) ≡ followed (fed_with v q (still empty)) (feed (fed_with v q (still empty)).left rest)
unfolding fed_with
step_then Whole q rest h = refl
step_then Long q rest h = refl
step_then More q rest h = sym (h refl)

-- what is left of a chunk gives what one step gives, and then what is left after it
turn-feed : (p : Pending) (chunk : List ℕ) (at : ℕ)
    → feed p (drop at chunk)
    ≡ followed (one_step p chunk at) (feed (one_step p chunk at).left (drop (take_of p chunk at).next chunk))
turn-feed p chunk at =
    let t = take_of p chunk at in
    feed-step p chunk at
    ∙ step_then t.event t.pending (drop t.next chunk) (λ m. feed-none t.pending chunk t.next (to_the_end p chunk at m))

-- ---- chunks

-- the lines f are answered by xs, and what they leave is pending
pub record Answered (d : Listener) (f : Fed) (xs : List Answer) (e : Listener) : Type 0 where
  pub runs : Runs d.session f.lines xs e.session
  pub pending : e.pending ≡ f.left

-- A RUN OF TURNS over a chunk answers the lines that the chunk gives
pub turns-run : {chunk : List ℕ} {d e : Listener} {at : ℕ} {xs : List Answer} → Turns chunk d at xs e
    → Answered d (feed d.pending (drop at chunk)) xs e
turns-run {chunk} {d} {e} {at} (listener.Turns.stop h) = rw (feed-none d.pending chunk at h) (record { runs = none; pending = refl })
turns-run {chunk} {d} {e} {at} (listener.Turns.go h t q) =
    let r = turns-run q in
    rw (turn-feed d.pending chunk at, ← t.next, ← t.turned.pending)
    (record { runs = runs_on t.turned.runs r.runs; pending = r.pending })

-- and over one chunk after another
pub served-run : {d e : Listener} {cs : List (List ℕ)} {xs : List Answer} → Served d cs xs e → Answered d (feeds d.pending cs) xs e
unfolding feeds
served-run listener.Served.stop = record { runs = none; pending = refl }
served-run (listener.Served.go t q) =
    let a = turns-run t in
    let b = served-run q in
    rw (← a.pending) (record { runs = runs_on a.runs b.runs; pending = b.pending })

-- ---- the whole input

-- THE LAW: the chunks of an input, whatever they are, and then its end give one answer to each line of the text that they make
pub input-run : {cs : List (List ℕ)} {xs : List Answer} {e : Listener} {r : Turn} → Served start_listener cs xs e → (z : Ends e r)
    → Runs started (lines_of (joined_lines cs)) (xs ++ z.turned.answers) r.listener.session
unfolding lines_given
input-run {cs} q z =
    let a = served-run q in
    rw (← lines-given cs, ← a.pending) (runs_on a.runs z.turned.runs)

-- and those of two ways to cut a text agree
pub cut-any-way : {s u : Session} {xs : List Answer} (cs ds : List (List ℕ)) → joined_lines cs ≡ joined_lines ds → Runs s (lines_given cs) xs u
    → Runs s (lines_given ds) xs u
cut-any-way cs ds e r = rw (← cut-anyhow cs ds e) r

-- as many answers as lines
pub answers-given : {cs : List (List ℕ)} {xs : List Answer} {e : Listener} {r : Turn} → Served start_listener cs xs e → (z : Ends e r)
    → length (xs ++ z.turned.answers) ≡ length (lines_of (joined_lines cs))
answers-given q z = one_each (input-run q z)
