-- docs/DESK.md: what a line does at the desk, and what it answers. The counter's ops do what they do at the counter; a question changes nothing; tidying
-- changes the layout alone. Rests on the rule of `session` for the counter's ops, and on that of `layout` for tidying.
use Rattle.std.specs.Prelude.{List, ℕ, ◌+◌, ◌*◌}
use Rattle.lists.specs.Lists.{limit}
use Rattle.frames.specs.declared.Request.{Request}
use Rattle.frames.specs.Answers.{Answer, content_of}
use Rattle.frames.specs.Writing.{LinePut}
use Rattle.layout.specs.declared.tidy.Tidied.{Tidied}
use Rattle.layout.specs.Tidy.{TidySays}
use Rattle.session.specs.declared.Session.{Session}
use Rattle.session.specs.Session.{Answers, with_layout}
use Rattle.desk_frames.specs.declared.Question.{Question}
use Rattle.desk_frames.specs.declared.DeskRequest.{DeskRequest}
use Rattle.desk_frames.specs.declared.DeskRequest.TheVariants.{Asks, Tidy, AtCounter}
use Rattle.desk_frames.specs.declared.DeskStepped.{DeskStepped}
use Rattle.desk_frames.specs.Answers.{Found, found_in, question_op, tidy_found, tidy_op, content_for}

-- an answer: one of the counter's, or what a question finds or tidying gives, with its op
pub data DeskAnswer : Type 0 where
  counters : Answer → DeskAnswer
  told : ℕ → Found → DeskAnswer

abbrev pub desk_content : DeskAnswer → List ℕ
desk_content (counters a) = content_of a
desk_content (told op f) = content_for op f

-- THE RULE: the request q, in the state s, gives the state t and the answer a
pub data DeskAnswers : Session → DeskRequest → Session → DeskAnswer → Type 0 where
  at-counter : {s t : Session} {q : Request} {a : Answer} → Answers s q t a → DeskAnswers s (AtCounter q) t (counters a)
  question : {s : Session} {q : Question} → DeskAnswers s (Asks q) s (told (question_op q) (found_in s.layout q))
  tidying : {s : Session} (d : Tidied) → TidySays s.layout d
      → DeskAnswers s Tidy (with_layout s d.layout) (told tidy_op (tidy_found d.outcome d.count))

-- the characters of the longest answer, with its newline: op, 00, how many nodes, all nodes, and the check
abbrev pub desk_longest : ℕ
desk_longest = 2 * (2 + 2 + 14 * limit + 1) + 1

-- what the request q, in the state s, gives: a state, and the answer's line in the line that was lent
pub record DeskSteps (s : Session) (q : DeskRequest) (before after : List ℕ) (r : DeskStepped) : Type 0 where
  pub answer : DeskAnswer
  pub answers : DeskAnswers s q r.session answer
  pub put : LinePut before (desk_content answer) after r.count
