-- `read::request` meets its contract. Assumes nothing.
use mathlib.Core.Path.{sym, ap, ◌∙◌}
use Rattle.desk_frames.specs.declared.DeskRequest.TheVariants.{AtCounter}
use Rattle.desk_frames.proofs.Reading.{no-desk-frame, counters-op, wrong-desk-length, well-asked}
use Rattle.desk_frames.proofs.read.request.Goals as goal

pub returns-in_default : goal.returns-in_default
returns-in_default c = c.no.ensures ∙ no-desk-frame _ c.in_default.ensures

pub returns-then-not-own : goal.returns-then-not-own
returns-then-not-own c =
    ap AtCounter c.request.ensures
    ∙ counters-op _ c.in-Some.ensures (sym c.own.ensures ∙ c.if-not-own.true)

pub returns-then-frame-length_of : goal.returns-then-frame-length_of
returns-then-frame-length_of c =
    c.no-then-frame-length_of.ensures
    ∙ wrong-desk-length _ c.in-Some.ensures (sym c.own.ensures ∙ c.if-not-own.false)
    (λ h. c.if-frame-length_of.true (h ∙ sym c.length_of.ensures))

pub returns : goal.returns
returns c =
    c.asked_by.ensures
    ∙ well-asked _ c.in-Some.ensures (sym c.own.ensures ∙ c.if-not-own.false) (c.if-frame-length_of.false ∙ c.length_of.ensures)
