-- From what is answered to what a request gives at the desk: a question, tidying, or what the counter is asked. Rests on specs/Desk.
use mathlib.Core.Path.{◌≡◌, ap, ◌∙◌}
use mathlib.Core.List.{List}
use Prim.Native.Nat.{ℕ, ◌≤◌}
use native.Mathlib.Omega.{arith}
use lib.ListN.{length, take, replicate, length-take, length-replicate}
use lib.Seq.{sets, length-sets}
use Rattle.frames.specs.declared.Request.{Request}
use Rattle.frames.specs.Answers.{answer_line}
use Rattle.frames.specs.Writing.{LinePut}
use Rattle.layout.specs.declared.tidy.Tidied.{Tidied}
use Rattle.layout.specs.Tidy.{TidySays}
use Rattle.session.specs.declared.Session.{Session}
use Rattle.session.specs.declared.Stepped.{Stepped}
use Rattle.session.specs.Session.{Steps, longest, with_layout}
use Rattle.desk_frames.specs.declared.Question.{Question}
use Rattle.desk_frames.specs.declared.DeskRequest.{DeskRequest}
use Rattle.desk_frames.specs.declared.DeskRequest.TheVariants.{Asks, Tidy, AtCounter}
use Rattle.desk_frames.specs.declared.DeskStepped.{DeskStepped}
use Rattle.desk_frames.specs.Answers.{Tells, content_for, tidy_found, tidy_op}
use Rattle.desk_frames.specs.Desk.{counters, at-counter, question, tidying, desk_longest, DeskSteps}
use Rattle.desk_frames.specs.Inner.{copied_from}

module _ {s : Session} {p : DeskRequest} {before after : List ℕ} where
  -- the same request by another name
  pub desk-asks : {q : DeskRequest} {r : DeskStepped} → p ≡ q → DeskSteps s q before after r → DeskSteps s p before after r
  desk-asks e h = rw e h

  pub question-steps : {q : Question} {n : ℕ} → p ≡ Asks q → Tells s.layout q before after n
      → DeskSteps s p before after (record { session = s; count = n })
  question-steps e t = rw e (record { answer = _; answers = question; put = t })

  pub tidy-steps : (d : Tidied) {n : ℕ} → p ≡ Tidy → TidySays s.layout d → LinePut before (content_for tidy_op (tidy_found d.outcome d.count)) after n
      → DeskSteps s p before after (record { session = with_layout s d.layout; count = n })
  tidy-steps d e t y = rw e (record { answer = _; answers = tidying d t; put = y })

  -- the counter's answer stands in the lent line
  pub counter-steps : {q : Request} {r : Stepped} {d : DeskStepped} → p ≡ AtCounter q → Steps s q r → d ≡ copied_from r
      → after ≡ sets before 0 (take r.count r.line) → DeskSteps s p before after d
  counter-steps e t h w =
      rw (e, h)
      (record {
        answer = counters t.answer;
        answers = at-counter t.answers;
        put = record { line = w ∙ ap (sets before 0) t.written; count = t.count };
      })

-- the counter's answer is one of its own line's first characters, and the lent line has room for it
pub has_room : {s : Session} {q : Request} {r : Stepped} (out : List ℕ) → Steps s q r → desk_longest ≤ length out
    → (r.count ≤ length r.line) × (r.count ≤ length out)
has_room {r = r} out t h =
    let line = ap length t.padded ∙ length-sets (replicate longest 0) 0 (answer_line t.answer) ∙ length-replicate {A = ℕ} longest 0 in
    let all = length-take r.count r.line in
    let same = ap length t.written in
    (omega (arith, t.count), omega (arith, t.count))
