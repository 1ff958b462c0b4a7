-- `read::request` meets its contract: each exit is a clause of `line_asks`, by the counter's forms. Assumes nothing.
use Rattle.std.proofs.Common.{sym, ◌∙◌}
use Rattle.frames.specs.declared.Request.TheVariants.{Malformed}
use Rattle.frames.specs.Requests.{form_of, length_of, asked_by, request_of}
use Rattle.frames.proofs.Requests.{no-frame, wrong-length, well}
use Rattle.frames.proofs.read.request.Goals as goal

pub returns-in_default : goal.returns-in_default
unfolding request_of
returns-in_default c = no-frame Malformed form_of _ c.in_default.ensures

pub returns-then-frame-length_of : goal.returns-then-frame-length_of
unfolding request_of length_of
returns-then-frame-length_of c =
    wrong-length Malformed form_of _ c.in-Some.ensures (λ h. c.if-frame-length_of.true (h ∙ sym c.length_of.ensures))

pub returns : goal.returns
unfolding request_of length_of asked_by
returns c =
    c.asked_by.ensures
    ∙ well Malformed form_of _ c.in-Some.ensures (c.if-frame-length_of.false ∙ c.length_of.ensures)
