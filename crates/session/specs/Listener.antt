-- Document 01, "Counter frames": the lines of the input, one answer each, and what the listener does with a chunk of it.
-- "A longer line, an empty one, or a last one lacking its newline is malformed and gets one answer; empty input gets none."
-- Rests on specs/Session and on the lines of `lines`.
use Rattle.std.specs.Prelude.{◌≡◌, List, [], ◌∷◌, ◌++◌, ℕ, ◌≤◌, ◌<◌, length, take, replicate}
use Rattle.std.proofs.lemmas.List.Edits.{sets}
use Rattle.lines.specs.declared.stream.Pending.{Pending}
use Rattle.lines.specs.Text.{Line, whole, long, cut}
use Rattle.lines.specs.Stream.{empty, take_of, Fed, still, fed_with, ended}
use Rattle.frames.specs.declared.Request.{Request}
use Rattle.frames.specs.declared.Request.TheVariants.{Malformed}
use Rattle.frames.specs.Requests.{request_of}
use Rattle.frames.specs.Answers.{Answer, each, answer_line}
use Rattle.session.specs.declared.Session.{Session}
use Rattle.session.specs.declared.Stepped.{Stepped}
use Rattle.session.specs.declared.listener.Listener.{Listener}
use Rattle.session.specs.declared.listener.Turn.{Turn}
use Rattle.session.specs.Session.{Answers, started, longest}

-- what a line asks
abbrev pub asked_in : Line → Request
asked_in (whole chars) = request_of chars
asked_in long = Malformed
asked_in cut = Malformed

-- the lines, one after another, each with its answer, take the state s to the state u: where a line asks as `asked` says, and what is asked gives a state and
-- an answer as `Gives` says
pub data RunsBy {Q A : Type 0} (asked : Line → Q) (Gives : Session → Q → Session → A → Type 0) : Session → List Line → List A → Session → Type 0 where
  none : {s : Session} → RunsBy asked Gives s [] [] s
  more : {s t u : Session} {line : Line} {lines : List Line} {a : A} {xs : List A}
      → Gives s (asked line) t a → RunsBy asked Gives t lines xs u → RunsBy asked Gives s (line ∷ lines) (a ∷ xs) u

-- at the counter
abbrev pub Runs : Session → List Line → List Answer → Session → Type 0
Runs s lines answers u = RunsBy asked_in Answers s lines answers u

-- what answers look like on the output: their lines, one after another
abbrev pub text_of : List Answer → List ℕ
text_of xs = each answer_line xs

abbrev pub start_listener : Listener
start_listener = record { session = started; pending = empty }

-- a turn with an answer, after which nothing is pending; and one without
abbrev pub spoken : Stepped → ℕ → Turn
spoken r n = record { listener = record { session = r.session; pending = empty }; next = n; line = r.line; count = r.count }

abbrev pub silent : Listener → ℕ → Turn
silent d n = record { listener = d; next = n; line = replicate longest 0; count = 0 }

-- the listener has answered these lines, its answers' text stands first in the turn's line, and this is pending
pub record Turned (d : Listener) (f : Fed) (r : Turn) : Type 0 where
  pub answers : List Answer
  pub runs : Runs d.session f.lines answers r.listener.session
  pub pending : r.listener.pending ≡ f.left
  pub count : r.count ≡ length (text_of answers)
  pub written : take r.count r.line ≡ text_of answers
  pub padded : r.line ≡ sets (replicate longest 0) 0 (text_of answers)

-- the line, if one has become whole, of one step from a position of a chunk, and what is pending then: nothing after a line
abbrev pub one_step : Pending → List ℕ → ℕ → Fed
one_step p chunk at = fed_with (take_of p chunk at).event (take_of p chunk at).pending (still empty)

-- at the end of the input: a last line that lacks its newline, and nothing is pending
abbrev pub last_step : Pending → Fed
last_step p = record { lines = ended p; left = empty }

-- what `turn` says
pub record Takes (d : Listener) (chunk : List ℕ) (at : ℕ) (r : Turn) : Type 0 where
  pub next : r.next ≡ (take_of d.pending chunk at).next
  pub turned : Turned d (one_step d.pending chunk at) r

-- what `end` says
pub record Ends (d : Listener) (r : Turn) : Type 0 where
  pub next : r.next ≡ 0
  pub turned : Turned d (last_step d.pending) r

-- turns over a chunk, from a position to its end, with their answers
pub data Turns (chunk : List ℕ) : Listener → ℕ → List Answer → Listener → Type 0 where
  stop : {d : Listener} {at : ℕ} → length chunk ≤ at → Turns chunk d at [] d
  go : {d e : Listener} {at : ℕ} {r : Turn} {xs : List Answer} → at < length chunk → (t : Takes d chunk at r)
      → Turns chunk r.listener r.next xs e → Turns chunk d at (t.turned.answers ++ xs) e

-- turns over chunk after chunk
pub data Served : Listener → List (List ℕ) → List Answer → Listener → Type 0 where
  stop : {d : Listener} → Served d [] [] d
  go : {d e f : Listener} {chunk : List ℕ} {chunks : List (List ℕ)} {xs ys : List Answer} → Turns chunk d 0 xs e
      → Served e chunks ys f → Served d (chunk ∷ chunks) (xs ++ ys) f
