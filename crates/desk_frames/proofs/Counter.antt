-- A run at the desk of which no line tidies is a run at the counter with the questions left out: the same states, and the counter's answers to the other
-- lines. So what is proved of the counter's runs is proved of these. Rests on Superset. Assumes nothing.
use mathlib.Core.Path.{◌≡◌, refl, sym, ap, ◌∙◌}
use mathlib.Core.List.{List, ◌∷◌}
use Rattle.lines.specs.Text.{Line, whole, long, cut}
use Rattle.frames.specs.Ranges.{more as and_then}
use Rattle.session.specs.declared.Session.{Session}
use Rattle.session.specs.Listener.{asked_in, Runs, none, more}
use Rattle.desk_frames.specs.declared.DeskRequest.{DeskRequest}
use Rattle.desk_frames.specs.declared.DeskRequest.TheVariants.{Tidy}
use Rattle.desk_frames.specs.Desk.{DeskAnswer, DeskAnswers, at-counter, question, tidying}
use Rattle.desk_frames.specs.Listener.{desk_asked_in, DeskRuns, NoneTidies, counter_lines, counter_answers}
use Rattle.desk_frames.proofs.Superset.{at_counter, at-counter-is}

-- what a line asks at the counter is what it asks of the counter at the desk
asked-there : (line : Line) → at_counter (desk_asked_in line) ≡ asked_in line
asked-there (whole chars) = at-counter-is chars
asked-there long = refl
asked-there cut = refl

-- a line more
one_more : (line : Line) (ls : List Line) (xs : List DeskAnswer) {s t u : Session} {p : DeskRequest} {a : DeskAnswer} → p ≡ desk_asked_in line
    → (desk_asked_in line ≡ Tidy → ⊥) → DeskAnswers s p t a → Runs t (counter_lines ls) (counter_answers xs) u
    → Runs s (counter_lines (line ∷ ls)) (counter_answers (a ∷ xs)) u
unfolding counter_lines counter_answers
one_more line ls xs e other (at-counter {q = q} g) r =
    let same : q ≡ asked_in line = ap at_counter e ∙ asked-there line in
    rw (← e) (more (rw same at g) r)
one_more line ls xs e other question r = rw (← e) r
one_more line ls xs e other (tidying d g) r = absurd (other (sym e))

-- THE LAW
pub desk-run-at-counter : {s t : Session} {lines : List Line} {xs : List DeskAnswer} → NoneTidies lines → DeskRuns s lines xs t
    → Runs s (counter_lines lines) (counter_answers xs) t
unfolding counter_lines counter_answers
desk-run-at-counter calm none = none
desk-run-at-counter (and_then other calm) (more {line = line} {lines = ls} {xs = xs} g q) = one_more line ls xs refl other g (desk-run-at-counter calm q)
