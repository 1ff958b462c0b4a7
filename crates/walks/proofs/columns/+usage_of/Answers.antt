-- `columns::usage_of` meets its contract: by the kind, and else by the sum. UsageSteps has the steps. Assumes nothing.
use mathlib.Core.Path.{◌≡◌, refl, ap, ◌∙◌}
use mathlib.Core.List.{[]}
use Prim.Native.Nat.{◌+◌, ◌-◌}
use native.Mathlib.Omega.{arith}
use lib.Ieee.{Float, binary64, div}
use Rattle.lists.specs.Lists.{limit}
use Rattle.walks.specs.Chain.{siblings}
use Rattle.walks.specs.Usage.{weight}
use Rattle.walks.proofs.Chain.{siblings-over, siblings-zero}
use Rattle.walks.proofs.UsageSteps.{sum_more, usage-none, usage-free, usage-part, usage-more}
use Rattle.walks.proofs.columns.+usage_of.Goals as goal
use Rattle.walks.proofs.columns.+usage_of.Goals.{else-loop-turn-test, then-loop-turn-test+then-c-ge-NONE}

pub returns-then-left-eq0 : goal.returns-then-left-eq0
returns-then-left-eq0 t c = let none = c.if-left-eq0.true in rw usage-none

pub returns-then-k-eq0 : goal.returns-then-k-eq0
returns-then-k-eq0 t c =
    let some = c.if-left-eq0.false in
    let free = c.if-k-eq0.true in
    rw usage-free

pub returns-then-k-eq1 : goal.returns-then-k-eq1
returns-then-k-eq1 t c =
    let some = c.if-left-eq0.false in
    let part = c.if-k-eq1.true in
    rw usage-part

pub loop-turn-init : goal.loop-turn-init
loop-turn-init t c = refl

pub loop-turn-preserved : goal.loop-turn-preserved
loop-turn-preserved t c =
    let a = c.args in
    let l = c.loop-turn in
    let n : a.left - (l._turn + 1) ≡ (a.left - l._turn) - 1 = omega arith in
    rw n
    (sum_more limit a.first.now a.next.now a.kind.now a.area.now a.left (a.left - l._turn) l.c l.sum _
    (omega arith) c.if-c-ge-NONE.false c.usage_of-u.ensures)
    ∙ l.invariant

pub returns : goal.returns
returns t c =
    let a = c.args in
    let l = c.loop-turn in
    let g = a.next.now in
    let n = a.left - l._turn in
    let none : siblings limit g n l.c ≡ [] =
    elim c.loop-turn-test.branch [ else-loop-turn-test w ↦ siblings-zero limit g l.c n (omega arith) | then-loop-turn-test+then-c-ge-NONE w ↦ siblings-over limit g l.c n w.if-c-ge-NONE.true ] in
    let some = c.if-left-eq0.false in
    let not-Free = c.if-k-eq0.false in
    let not-part = c.if-k-eq1.false in
    rw usage-more (ap (λ (u : Float). div binary64 u (weight a.area.now a.x)) (rw none at l.invariant))
