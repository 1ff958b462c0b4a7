-- The contract of each public call of the desk determines its answer, and with it the next state and what stands in the lent line: two results that meet it
-- are the same. Rests on Decided, which says so of what is answered. Assumes nothing.
use mathlib.Core.Path.{◌≡◌, refl, sym, ap, ◌∙◌}
use mathlib.Core.List.{List}
use Prim.Native.Nat.{ℕ}
use lib.ListN.{length}
use lib.Seq.{sets}
use Rattle.std.specs.Prelude.{Result, ⊤}
use Rattle.layout.proofs.Determined.{only}
use Rattle.layout.specs.declared.layout.Layout.{Layout}
use Rattle.marks.specs.declared.Refusal.{Refusal}
use Rattle.lines.specs.Stream.{Fed}
use Rattle.frames.specs.Writing.{line_for, LinePut}
use Rattle.session.specs.declared.Session.{Session}
use Rattle.session.specs.declared.listener.Listener.{Listener}
use Rattle.desk_frames.specs.declared.Question.{Question}
use Rattle.desk_frames.specs.declared.DeskRequest.{DeskRequest}
use Rattle.desk_frames.specs.declared.DeskStepped.{DeskStepped}
use Rattle.desk_frames.specs.declared.listener.DeskTurn.{DeskTurn}
use Rattle.desk_frames.specs.Requests.{malformed_line, desk_request_of}
use Rattle.desk_frames.specs.Answers.{content_for, tidy_found, tidy_op, Tells}
use Rattle.desk_frames.specs.Desk.{desk_content, DeskSteps}
use Rattle.desk_frames.specs.Listener.{desk_text_of, DeskTurned, DeskTakes, DeskEnds}
use Rattle.desk_frames.proofs.Decided.{desk-answers-once, desk-runs-once}

module _ (before a b : List ℕ) where
  -- one line stands in the lent one
  same_line : {x y : List ℕ} {n m : ℕ} → x ≡ y → LinePut before x a n → LinePut before y b m → (a ≡ b) × (n ≡ m)
  same_line e p q =
      (p.line ∙ ap (λ (c : List ℕ). sets before 0 (line_for c)) e ∙ sym q.line, p.count ∙ ap (λ (c : List ℕ). length (line_for c)) e ∙ sym q.count)

  -- ---- a question
  pub answer-is-one : (l : Layout) (q : Question) (n m : ℕ) → Tells l q before a n → Tells l q before b m → (a ≡ b) × (n ≡ m)
  answer-is-one l q n m = same_line refl

  -- ---- what is answered to a tidying
  pub tidied-is-one : (v : Result ⊤ Refusal) (k n m : ℕ) → LinePut before (content_for tidy_op (tidy_found v k)) a n
      → LinePut before (content_for tidy_op (tidy_found v k)) b m → (a ≡ b) × (n ≡ m)
  tidied-is-one v k n m = same_line refl

  -- ---- a request, a line, and a line that is malformed as it stands
  pub desk-asked-is-one : (s : Session) (q : DeskRequest) (r p : DeskStepped) → DeskSteps s q before a r → DeskSteps s q before b p → (a ≡ b) × (r ≡ p)
  desk-asked-is-one s q r p x y =
      let e = desk-answers-once s q r.session p.session x.answer y.answer x.answers y.answers in
      let same = same_line (ap desk_content e.1) x.put y.put in
      (same.0, λ i. record { session = e.0 i; count = same.1 i })

  pub desk-step-is-one : (s : Session) (line : List ℕ) (r p : DeskStepped) → DeskSteps s (desk_request_of line) before a r
      → DeskSteps s (desk_request_of line) before b p → (a ≡ b) × (r ≡ p)
  desk-step-is-one s line = desk-asked-is-one s (desk_request_of line)

  pub desk-malformed-is-one : (s : Session) (r p : DeskStepped) → DeskSteps s malformed_line before a r → DeskSteps s malformed_line before b p
      → (a ≡ b) × (r ≡ p)
  desk-malformed-is-one s = desk-asked-is-one s malformed_line

  -- ---- the listener: the same lines were answered, and the chunk goes on at the same position
  turned-is-one : (d : Listener) (f : Fed) (r p : DeskTurn) → r.next ≡ p.next → DeskTurned d f before a r → DeskTurned d f before b p
      → (a ≡ b) × (r ≡ p)
  turned-is-one d f r p next x y =
      let e = desk-runs-once x.runs y.runs in
      let text = ap desk_text_of e.0 in
      let pending = only r.listener.pending p.listener.pending x.pending y.pending in
      let count = x.count ∙ ap length text ∙ sym y.count in (
        x.written ∙ ap (sets before 0) text ∙ sym y.written,
        λ i. record { listener = record { session = e.1 i; pending = pending i }; next = next i; count = count i },
      )

  pub desk-turn-is-one : (d : Listener) (chunk : List ℕ) (at : ℕ) (r p : DeskTurn) → DeskTakes d chunk at before a r → DeskTakes d chunk at before b p
      → (a ≡ b) × (r ≡ p)
  desk-turn-is-one d chunk at r p x y = turned-is-one d _ r p (only r.next p.next x.next y.next) x.turned y.turned

  pub desk-finish-is-one : (d : Listener) (r p : DeskTurn) → DeskEnds d before a r → DeskEnds d before b p → (a ≡ b) × (r ≡ p)
  desk-finish-is-one d r p x y = turned-is-one d _ r p (only r.next p.next x.next y.next) x.turned y.turned
