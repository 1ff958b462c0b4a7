-- `part_mark` meets its contract. The loop's invariant: the first part is among those still to come. Assumes nothing.
use mathlib.Core.Path.{sym, ◌∙◌}
use Rattle.booking.specs.NewNodes.{no_new, those}
use Rattle.booking.proofs.Runs.{next-entry, none_left}
use Rattle.booking.proofs.new_marks.part_mark.Goals as goal

pub returns-then-is_part : goal.returns-then-is_part
returns-then-is_part c =
    let l = c.loop-n in
    c.mark_of.ensures
    ∙ (rw (next-entry (those c.args.new) l.n-index no_new c.loop-n-test.true, sym c.is_part.ensures ∙ c.if-is_part.true) at l.invariant)

pub loop-n-preserved : goal.loop-n-preserved
loop-n-preserved c =
    let l = c.loop-n in
    rw (next-entry (those c.args.new) l.n-index no_new c.loop-n-test.true, sym c.is_part.ensures ∙ c.if-is_part.false) at l.invariant

pub returns : goal.returns
returns c = c.zero.ensures ∙ (rw (none_left (those c.args.new) c.loop-n.n-index c.loop-n-test.false) at c.loop-n.invariant)
