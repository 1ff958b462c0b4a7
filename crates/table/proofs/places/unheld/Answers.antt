-- `table::places::unheld` meets its contract. The loop's invariant: the answer from i on is the answer. Assumes nothing.
use mathlib.Core.Path.{◌≡◌, sym, ◌∙◌}
use native.Mathlib.Omega.{arith}
use borrow.Author.Tests.{eq-eqb, ne_eqb}
use Rattle.lists.specs.Lists.{limit}
use Rattle.table.proofs.Unheld.{lowest-past, lowest-here, lowest-on}
use Rattle.table.proofs.places.unheld.Goals as goal

pub loop-i-preserved : goal.loop-i-preserved
loop-i-preserved c =
    sym (lowest-on limit c.args.nodes.now c.loop-i.i (omega arith) (ne_eqb _ _ c.if-nodes-i-eq0.false)) ∙ c.loop-i.invariant

pub returns-then-nodes-i-eq0 : goal.returns-then-nodes-i-eq0
returns-then-nodes-i-eq0 c =
    sym (lowest-here limit c.args.nodes.now c.loop-i.i (omega arith) (eq-eqb _ _ c.if-nodes-i-eq0.true)) ∙ c.loop-i.invariant

pub returns-then-from-lt-NONE : goal.returns-then-from-lt-NONE
returns-then-from-lt-NONE c =
    let e : c.loop-i.i ≡ limit = omega arith in
    sym e ∙ sym (lowest-past limit c.args.nodes.now c.loop-i.i (omega arith)) ∙ c.loop-i.invariant

pub returns-else-from-lt-NONE : goal.returns-else-from-lt-NONE
returns-else-from-lt-NONE c = sym (lowest-past limit c.args.nodes.now c.args.from (omega arith))
