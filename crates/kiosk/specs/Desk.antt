-- What the exported answer of the desk is: the session that the record says takes the line at the desk (docs/DESK.md), and the record, the answer and its
-- count are what comes of it. What is asked at the counter leaves the record as the counter's own step does; a question leaves it as it was; tidying leaves
-- what is kept, and where it is refused each number of the record is as it was.
use Rattle.std.specs.Prelude.{Bool, true, false, cond, List, ℕ, replicate, Result, Ok, Err, ⊤}
use Rattle.marks.specs.declared.Refusal.{Refusal}
use Rattle.layout.specs.declared.tidy.Tidied.{Tidied}
use Rattle.layout.specs.Tidy.{TidySays}
use Rattle.frames.specs.declared.Request.{Request}
use Rattle.frames.specs.Answers.{content_of}
use Rattle.frames.specs.Writing.{LinePut}
use Rattle.desk_frames.specs.declared.Question.{Question}
use Rattle.desk_frames.specs.declared.DeskRequest.{DeskRequest}
use Rattle.desk_frames.specs.declared.DeskRequest.TheVariants.{Asks, Tidy, AtCounter}
use Rattle.desk_frames.specs.Answers.{Tells, content_for, tidy_found, tidy_op}
use Rattle.desk_frames.specs.Desk.{desk_longest}
use Rattle.kiosk.specs.declared.records.SessionRecord.{SessionRecord}
use Rattle.kiosk.specs.Records.{layout_of}
use Rattle.kiosk.specs.Step.{Answered, record_with_layout}

-- the answer's line stands in zeros
abbrev pub blank : List ℕ
blank = replicate desk_longest 0

abbrev pub is_refused : Result ⊤ Refusal → Bool
is_refused (Ok tt) = false
is_refused (Err e) = true

-- the record after a tidying
abbrev pub record_tidied : SessionRecord → Tidied → SessionRecord
record_tidied r d = cond (is_refused d.outcome) r (record_with_layout r d.layout)

-- from the record before, the request gives the record next and an answer whose first count characters are its line
pub data DeskAnswered (before : SessionRecord) : DeskRequest → SessionRecord → List ℕ → ℕ → Type 0 where
  -- a question leaves the record as it was
  question : {q : Question} {answer : List ℕ} {count : ℕ} → Tells (layout_of before.layout) q blank answer count
      → DeskAnswered before (Asks q) before answer count
  -- tidying: the layout of the record is tidied
  tidying : (d : Tidied) {answer : List ℕ} {count : ℕ} → TidySays (layout_of before.layout) d
      → LinePut blank (content_for tidy_op (tidy_found d.outcome d.count)) answer count
      → DeskAnswered before Tidy (record_tidied before d) answer count
  -- at the counter: the record is that of the counter's own step, and the answer has its line
  at-counter : {q : Request} {next : SessionRecord} {said answer : List ℕ} {count : ℕ} (answered : Answered before q next said count)
      → LinePut blank (content_of answered.steps.answer) answer count → DeskAnswered before (AtCounter q) next answer count
