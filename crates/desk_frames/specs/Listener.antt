-- The lines of the desk's input, one answer each, and what the listener does with a chunk of it: as at the counter (session/specs/Listener.antt), with the
-- answer in a line that is lent. Rests on specs/Desk and on the lines of `lines`.
use Rattle.std.specs.Prelude.{◌≡◌, Bool, true, false, cond, List, [], ◌∷◌, ℕ, length}
use Rattle.std.proofs.lemmas.List.Edits.{sets}
use Rattle.lines.specs.Text.{Line, whole, long, cut}
use Rattle.lines.specs.Stream.{take_of, Fed}
use Rattle.frames.specs.Answers.{Answer, each}
use Rattle.frames.specs.Ranges.{Each}
use Rattle.frames.specs.Writing.{line_for}
use Rattle.session.specs.declared.Session.{Session}
use Rattle.session.specs.declared.listener.Listener.{Listener}
use Rattle.session.specs.Listener.{RunsBy, one_step, last_step}
use Rattle.desk_frames.specs.declared.DeskRequest.{DeskRequest}
use Rattle.desk_frames.specs.declared.listener.DeskTurn.{DeskTurn}
use Rattle.desk_frames.specs.Requests.{malformed_line, desk_request_of}
use Rattle.desk_frames.specs.declared.DeskRequest.TheVariants.{Asks, Tidy, AtCounter}
use Rattle.desk_frames.specs.Desk.{DeskAnswer, counters, told, DeskAnswers, desk_content}

-- what a line asks
abbrev pub desk_asked_in : Line → DeskRequest
desk_asked_in (whole chars) = desk_request_of chars
desk_asked_in long = malformed_line
desk_asked_in cut = malformed_line

-- the lines, one after another, each with its answer, take the state s to the state u
abbrev pub DeskRuns : Session → List Line → List DeskAnswer → Session → Type 0
DeskRuns s lines answers u = RunsBy desk_asked_in DeskAnswers s lines answers u

-- ---- the counter in it: the lines that ask no question; and the answers that are the counter's
abbrev pub is_question : DeskRequest → Bool
is_question (Asks q) = true
is_question Tidy = false
is_question (AtCounter q) = false

-- no line tidies: what does is no line of the counter's
abbrev pub NoneTidies : List Line → Type 0
NoneTidies lines = Each (λ line. desk_asked_in line ≡ Tidy → ⊥) lines

unfoldable pub counter_lines : List Line → List Line
counter_lines [] = []
counter_lines (line ∷ lines) = cond (is_question (desk_asked_in line)) (counter_lines lines) (line ∷ counter_lines lines)

unfoldable pub counter_answers : List DeskAnswer → List Answer
counter_answers [] = []
counter_answers (counters a ∷ xs) = a ∷ counter_answers xs
counter_answers (told op f ∷ xs) = counter_answers xs

-- ---- its text: what answers look like on the output: their lines, one after another
abbrev pub desk_text_of : List DeskAnswer → List ℕ
desk_text_of xs = each (λ a. line_for (desk_content a)) xs

-- the listener has answered these lines, its answers' text stands first in the lent line, and this is pending
pub record DeskTurned (d : Listener) (f : Fed) (before after : List ℕ) (r : DeskTurn) : Type 0 where
  pub answers : List DeskAnswer
  pub runs : DeskRuns d.session f.lines answers r.listener.session
  pub pending : r.listener.pending ≡ f.left
  pub count : r.count ≡ length (desk_text_of answers)
  pub written : after ≡ sets before 0 (desk_text_of answers)

-- what `turn` says
pub record DeskTakes (d : Listener) (chunk : List ℕ) (at : ℕ) (before after : List ℕ) (r : DeskTurn) : Type 0 where
  pub next : r.next ≡ (take_of d.pending chunk at).next
  pub turned : DeskTurned d (one_step d.pending chunk at) before after r

-- what `finish` says
pub record DeskEnds (d : Listener) (before after : List ℕ) (r : DeskTurn) : Type 0 where
  pub next : r.next ≡ 0
  pub turned : DeskTurned d (last_step d.pending) before after r
