-- A request's answer at the desk and a run's answers are decided by the state and the lines. Rests on the same of the counter's requests, of tidying, and of
-- any run.
use mathlib.Core.Path.{◌≡◌, refl, ap}
use mathlib.Core.List.{List}
use Rattle.lines.specs.Text.{Line}
use Rattle.layout.specs.declared.tidy.Tidied.{Tidied}
use Rattle.layout.proofs.Determined.{tidy-is-one}
use Rattle.session.specs.declared.Session.{Session}
use Rattle.session.specs.Session.{Reply, with_layout}
use Rattle.session.proofs.Decided.{answers-once, runs-by-once}
use Rattle.desk_frames.specs.declared.DeskRequest.{DeskRequest}
use Rattle.desk_frames.specs.Answers.{tidy_found, tidy_op}
use Rattle.desk_frames.specs.Desk.{DeskAnswer, counters, told, DeskAnswers, at-counter, question, tidying}
use Rattle.desk_frames.specs.Listener.{desk_asked_in, DeskRuns}

pub desk-answers-once : (s : Session) (q : DeskRequest) (t u : Session) (a b : DeskAnswer) → DeskAnswers s q t a → DeskAnswers s q u b
    → (t ≡ u) × (a ≡ b)
desk-answers-once s q t u a b (at-counter {q = p} g) (at-counter h) =
    let e = answers-once s p g h in (ap (λ (w : Reply). w.session) e, ap (λ (w : Reply). counters w.answer) e)
desk-answers-once s q t u a b question question = (refl, refl)
desk-answers-once s q t u a b (tidying d g) (tidying e h) =
    let same = tidy-is-one s.layout d e g h in
    (ap (λ (x : Tidied). with_layout s x.layout) same, ap (λ (x : Tidied). told tidy_op (tidy_found x.outcome x.count)) same)

pub desk-runs-once : {s u v : Session} {ls : List Line} {xs ys : List DeskAnswer} → DeskRuns s ls xs u → DeskRuns s ls ys v → (xs ≡ ys) × (u ≡ v)
desk-runs-once q r = runs-by-once desk_asked_in DeskAnswers desk-answers-once q r
