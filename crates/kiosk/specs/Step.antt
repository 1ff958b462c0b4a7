-- What the exported step does: the session that the record says takes the line, and the record, the answer and its count are what comes of it.
-- Document 01: "Refused: number, layout as handed in". Where the answer is a refusal, each number of the record is as it was, whatever numbers it holds.
use Rattle.std.specs.Prelude.{◌≡◌, Bool, cond, List, ℕ}
use Rattle.layout.specs.declared.layout.Layout.{Layout}
use Rattle.frames.specs.declared.Request.{Request}
use Rattle.frames.specs.declared.Request.TheVariants.{OfLayout, Keep, Restore, Malformed}
use Rattle.session.specs.declared.Stepped.{Stepped}
use Rattle.session.specs.declared.replies.Said.{Said}
use Rattle.session.specs.Session.{Steps}
use Rattle.session.specs.Replies.{refusal}
use Rattle.kiosk.specs.declared.SteppedRecord.{SteppedRecord}
use Rattle.kiosk.specs.declared.records.LayoutRecord.{LayoutRecord}
use Rattle.kiosk.specs.declared.records.SessionRecord.{SessionRecord}
use Rattle.kiosk.specs.Records.{session_of, layout_record}

-- the record of what is kept after an accepted request that leaves the layout l: keep alone writes it
abbrev pub kept_record : SessionRecord → Request → Layout → LayoutRecord
kept_record r (OfLayout ask) l = r.kept
kept_record r Keep l = layout_record l
kept_record r Restore l = r.kept
kept_record r Malformed l = r.kept

-- the record afterwards: where the answer says no, the record before; else that of the layout l, and of what is kept
abbrev pub record_after : SessionRecord → Bool → Request → Layout → SessionRecord
record_after r refused q l = cond refused r (record { layout = layout_record l; kept = kept_record r q l })

-- from the record before, the request q gives the record next and an answer whose first count characters are its line
pub record Answered (before : SessionRecord) (q : Request) (next : SessionRecord) (answer : List ℕ) (count : ℕ) : Type 0 where
  pub stepped : Stepped
  pub steps : Steps (session_of before) q stepped
  pub left : next ≡ record_after before (refusal steps.answer) q stepped.session.layout
  pub written : answer ≡ stepped.line
  pub counted : count ≡ stepped.count

-- the record with the layout l, and what is kept as it was
abbrev pub record_with_layout : SessionRecord → Layout → SessionRecord
record_with_layout r l = record { layout = layout_record l; kept = r.kept }

-- the record s, and what is said
abbrev pub record_step_to : SessionRecord → Said → SteppedRecord
record_step_to s said = record { session = s; line = said.line; count = said.count }
