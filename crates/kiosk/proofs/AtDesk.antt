-- From what is answered to what the exported answer of the desk says: a question, tidying, or what the counter is asked. Rests on specs/Desk.
use mathlib.Core.Path.{◌≡◌, refl, ap, ap₂, ◌∙◌}
use mathlib.Core.List.{List}
use Prim.Native.Nat.{ℕ, ◌≤◌}
use native.Mathlib.Omega.{arith}
use lib.ListN.{length, take, length-replicate}
use lib.Seq.{sets}
use Rattle.std.specs.Prelude.{Ok, Err}
use Rattle.marks.specs.declared.Refusal.{Refusal}
use Rattle.layout.specs.declared.layout.Layout.{Layout}
use Rattle.layout.specs.declared.tidy.Tidied.{Tidied}
use Rattle.layout.specs.Tidy.{TidySays}
use Rattle.frames.specs.declared.Request.{Request}
use Rattle.frames.specs.Writing.{LinePut}
use Rattle.desk_frames.specs.declared.Question.{Question}
use Rattle.desk_frames.specs.declared.DeskRequest.{DeskRequest}
use Rattle.desk_frames.specs.declared.DeskRequest.TheVariants.{Asks, Tidy, AtCounter}
use Rattle.desk_frames.specs.Answers.{Tells, content_for, tidy_found, tidy_op}
use Rattle.desk_frames.specs.Desk.{desk_longest}
use Rattle.desk_frames.proofs.Stepping.{has_room}
use Rattle.kiosk.specs.declared.records.LayoutRecord.{LayoutRecord}
use Rattle.kiosk.specs.declared.records.SessionRecord.{SessionRecord}
use Rattle.kiosk.specs.Records.{layout_of, layout_record}
use Rattle.kiosk.specs.Step.{Answered}
use Rattle.kiosk.specs.Desk.{blank, record_tidied, DeskAnswered, question, tidying, at-counter}

-- the same request by another name
pub desk-asks : {given next : SessionRecord} {p q : DeskRequest} {line : List ℕ} {n : ℕ} → p ≡ q → DeskAnswered given p next line n
    → DeskAnswered given q next line n
desk-asks e h = rw e at h

pub question-answered : {given : SessionRecord} {q : Question} {l : Layout} {line : List ℕ} {n : ℕ} → l ≡ layout_of given.layout
    → Tells l q blank line n → DeskAnswered given (Asks q) given line n
question-answered e t = question (rw e at t)

-- tidying: where it is accepted the layout's record is written anew, and where it is refused none is
module _ {given : SessionRecord} {l : Layout} {line : List ℕ} {n : ℕ} (d : Tidied) (e : l ≡ layout_of given.layout) (t : TidySays l d)
    (y : LinePut blank (content_for tidy_op (tidy_found d.outcome d.count)) line n) where
  tidy-answered : {next : SessionRecord} → next ≡ record_tidied given d → DeskAnswered given Tidy next line n
  tidy-answered h = rw h (tidying d (rw e at t) y)

  pub tidy-done : {r : LayoutRecord} → d.outcome ≡ Ok tt → r ≡ layout_record d.layout
      → DeskAnswered given Tidy (record { layout = r; kept = given.kept }) line n
  tidy-done h w = tidy-answered (rw (h, w) refl)

  pub tidy-refused : {no : Refusal} → d.outcome ≡ Err no → DeskAnswered given Tidy given line n
  tidy-refused h = tidy-answered (rw h refl)

module _ {given next : SessionRecord} {q : Request} {said : List ℕ} {n : ℕ} (a : Answered given q next said n) where
  -- the counter's answer is its line's first characters, and the desk's line has room for it
  pub counter-room : (n ≤ length said) × (n ≤ desk_longest)
  counter-room =
      let all = length-replicate {A = ℕ} desk_longest 0 in
      let h = has_room blank a.steps (omega (arith, all)) in
      rw (a.written, a.counted) (h.0, omega (arith, all, h.1))

  pub counter-answered : {line : List ℕ} → line ≡ sets blank 0 (take n said) → DeskAnswered given (AtCounter q) next line n
  counter-answered w =
      let same : take n said ≡ take a.stepped.count a.stepped.line = ap₂ (λ (k : ℕ) (l : List ℕ). take k l) a.counted a.written in
      at-counter a (record { line = w ∙ ap (sets blank 0) (same ∙ a.steps.written); count = a.counted ∙ a.steps.count })
