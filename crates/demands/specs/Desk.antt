-- Demand 1 at the desk (docs/DESK.md). Three of the desk's questions write marks too: the room light, and the two lists by position. Tidying writes none, and
-- changes the layout. Here is what their law is said with.
use mathlib.Core.List.{List, [], ◌∷◌, Memᴰ}
use Rattle.std.specs.Prelude.{Result, Ok, Err, Some, None, Option}
use Rattle.marks.specs.declared.Mark.{Mark}
use Rattle.layout.specs.declared.layout.Layout.{Layout}
use Rattle.marks.specs.declared.Refusal.{Refusal}
use Rattle.questions.specs.Answers.{free_mark_of, removable_mark_of}
use Rattle.questions.specs.Light.{light_of}
use Rattle.frames.specs.declared.Request.{Request}
use Rattle.frames.specs.Answers.{Answer}
use Rattle.session.specs.declared.Session.{Session}
use Rattle.desk_frames.specs.declared.Question.{Question}
use Rattle.desk_frames.specs.declared.Question.TheVariants.{WhyNot, RoomLight, FreePiece, RemovablePiece, PartNumbers, Figures, Snapshot, Cuts, EatenArea, Amounts}
use Rattle.desk_frames.specs.declared.DeskRequest.{DeskRequest}
use Rattle.desk_frames.specs.declared.DeskRequest.TheVariants.{Asks, AtCounter}
use Rattle.desk_frames.specs.Desk.{DeskAnswer, counters}
use Rattle.demands.specs.Counter.{marks_written}

-- the mark that the light names, and the one at a position
abbrev pub mark_lit : Result (Option Mark) Refusal → List Mark
mark_lit (Ok (Some m)) = m ∷ []
mark_lit (Ok None) = []
mark_lit (Err e) = []

abbrev pub mark_listed : Result Mark Refusal → List Mark
mark_listed (Ok m) = m ∷ []
mark_listed (Err e) = []

-- the marks that the answer to a question writes
abbrev pub marks_told : Layout → Question → List Mark
marks_told l (WhyNot mark part) = []
marks_told l (RoomLight part) = mark_lit (light_of l part)
marks_told l (FreePiece position) = mark_listed (free_mark_of l position)
marks_told l (RemovablePiece position) = mark_listed (removable_mark_of l position)
marks_told l PartNumbers = []
marks_told l Figures = []
marks_told l Snapshot = []
marks_told l Cuts = []
marks_told l EatenArea = []
marks_told l Amounts = []

-- the answer a to the request, in the state s, writes the mark k
pub data WritesMark (k : Mark) (s : Session) : DeskRequest → DeskAnswer → Type 0 where
  at_counter : {q : Request} {a : Answer} → Memᴰ k (marks_written a) → WritesMark k s (AtCounter q) (counters a)
  told : {q : Question} {a : DeskAnswer} → Memᴰ k (marks_told s.layout q) → WritesMark k s (Asks q) a
