-- Every answer of every run of the desk reads back from its line: nothing is assumed of the run, which starts with the two all-zero layouts. Rests on Fits,
-- on `session` for what the counter's requests leave, and on Heard for what a line asks.
use mathlib.Core.Path.{◌≡◌}
use mathlib.Core.List.{List}
use native.Mathlib.Omega.{arith}
use Rattle.layout.specs.declared.layout.Layout.{Layout}
use Rattle.layout.specs.declared.tidy.Tidied.{Tidied}
use Rattle.layout.specs.Tidy.{TidySays}
use Rattle.lines.specs.Text.{Line, whole, long, cut}
use Rattle.frames.specs.Bytes.{pairs, chars_of, framed}
use Rattle.frames.specs.Ranges.{Each, none as none_left, more as and_then}
use Rattle.session.specs.declared.Session.{Session}
use Rattle.session.specs.Session.{started}
use Rattle.session.specs.Listener.{none, more}
use Rattle.session.proofs.Fitting.{Typed, Held, held_after, started-held}
use Rattle.desk_frames.specs.declared.DeskRequest.{DeskRequest}
use Rattle.desk_frames.specs.Desk.{DeskAnswer, desk_content, DeskAnswers, at-counter, question, tidying}
use Rattle.desk_frames.specs.Listener.{desk_asked_in, DeskRuns}
use Rattle.desk_frames.specs.Ranges.{DeskRequestFits}
use Rattle.desk_frames.proofs.Tidying.{tidy-leaves}
use Rattle.desk_frames.proofs.Fits.{desk-back}
use Rattle.desk_frames.proofs.Heard.{desk-request-fits}

-- both layouts stay as their types say: a question changes nothing, and tidying leaves such a layout
typed-tidied : (l : Layout) (d : Tidied) → Typed l → TidySays l d → Typed d.layout
typed-tidied l d x h = let y = tidy-leaves l d x.sized h in record { sized = y.sized; number = omega (arith, y.number, x.number) }

desk-held : (s : Session) → Held s → (q : DeskRequest) (t : Session) (a : DeskAnswer) → DeskRequestFits q → DeskAnswers s q t a → Held t
desk-held s x q t a f (at-counter {q = r} {a = b} h) = held_after s x r t b f h
desk-held s x q t a f question = x
desk-held s x q t a f (tidying d h) = record { layout = typed-tidied s.layout d x.layout h; kept = x.kept }

asked-fits : (line : Line) → DeskRequestFits (desk_asked_in line)
asked-fits (whole chars) = desk-request-fits chars
asked-fits long = tt
asked-fits cut = tt

-- the bytes of the answer's line are those that were written
abbrev pub ReadsBack : DeskAnswer → Type 0
ReadsBack a = pairs (chars_of (framed (desk_content a))) ≡ framed (desk_content a)

runs-back : {s u : Session} {ls : List Line} {xs : List DeskAnswer} → Held s → DeskRuns s ls xs u → Each ReadsBack xs
runs-back x none = none_left
runs-back x (more {s} {t} {line = line} {a = a} h r) =
    let f = asked-fits line in
    and_then (desk-back s x.layout.sized x.layout.number f h) (runs-back (desk-held s x (desk_asked_in line) t a f h) r)

-- THE LAW: all answers of a run from the start
pub desk-runs-back : {u : Session} {ls : List Line} {xs : List DeskAnswer} → DeskRuns started ls xs u → Each ReadsBack xs
desk-runs-back r = runs-back started-held r
