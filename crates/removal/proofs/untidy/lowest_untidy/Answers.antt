-- `removal::untidy::lowest_untidy` meets its contract. The loop's invariant: the answer from i on is the answer. Assumes nothing.
use mathlib.Core.Path.{◌≡◌, sym, ◌∙◌}
use mathlib.Core.Bool.{false}
use native.Mathlib.Omega.{arith}
use Rattle.lists.specs.Lists.{limit}
use Rattle.removal.specs.Untidy.{untidy_in}
use Rattle.removal.proofs.Bare.{no-first, not-bare, is-untidy, from_start, from_past, from-here, from_on}
use Rattle.removal.proofs.untidy.lowest_untidy.Goals as goal
use Rattle.removal.proofs.untidy.lowest_untidy.Goals.{else-n-lt-NONE-via-then-n-lt-NONE+else-is_bare, else-n-lt-NONE-via-else-n-lt-NONE}

pub loop-i-init : goal.loop-i-init
loop-i-init c = from_start c.args.nodes.now

pub loop-i-preserved : goal.loop-i-preserved
loop-i-preserved c =
    let l = c.loop-i in
    let t = c.args.nodes.now in
    let not-here : untidy_in t l.i ≡ false =
    elim c.else-n-lt-NONE.branch [
      | else-n-lt-NONE-via-then-n-lt-NONE+else-is_bare w ↦ not-bare t l.i (sym w.is_bare.ensures ∙ w.if-is_bare.false)
      | else-n-lt-NONE-via-else-n-lt-NONE w ↦ no-first t l.i w.if-n-lt-NONE.false
    ]
    in
    sym (from_on t l.i c.loop-i-test.true not-here) ∙ l.invariant

pub returns-then-is_bare : goal.returns-then-is_bare
returns-then-is_bare c =
    let l = c.loop-i in
    let t = c.args.nodes.now in
    let here = is-untidy t l.i c.if-n-lt-NONE.true (sym c.is_bare.ensures ∙ c.if-is_bare.true) in
    sym (from-here t l.i c.loop-i-test.true here) ∙ l.invariant

pub returns : goal.returns
returns c =
    let e : c.loop-i.i ≡ limit = omega arith in
    sym e ∙ sym (from_past c.args.nodes.now c.loop-i.i (omega arith)) ∙ c.loop-i.invariant
