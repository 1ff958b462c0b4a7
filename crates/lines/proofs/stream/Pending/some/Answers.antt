-- `Pending::some` meets its contract: adding what is left to what is pending gives what adding all gives. Assumes nothing.
use mathlib.Core.Path.{sym, ◌∙◌}
use borrow.Author.Rules.{rules}
use Rattle.lines.proofs.Adds.{adds-over, adds-next, adds_none}
use Rattle.lines.proofs.stream.Pending.some.Goals as goal

pub returns-then-p : goal.returns-then-p
returns-then-p c =
    let l = c.loop-x in
    sym (adds-over l.p _ c.if-p.true) ∙ l.invariant

pub loop-x-preserved : goal.loop-x-preserved
loop-x-preserved c =
    let l = c.loop-x in
    rw c.one-p.ensures (adds-next l.p c.args.chars.now l.x-index (search rules) ∙ l.invariant)

pub returns : goal.returns
returns c =
    let l = c.loop-x in
    sym (adds_none l.p _ l.x-index (search rules)) ∙ l.invariant
