-- The sum after i places is `area_listed` of these, and no more than that of all.
use mathlib.Core.Path.{◌≡◌, sym}
use Prim.Native.Nat.{◌+◌}
use native.Mathlib.Omega.{arith}
use Rattle.lists.specs.Lists.{limit}
use Rattle.sound.proofs.Sums.{area-none, area-here, area-pass, area-grows}
use Rattle.sound.proofs.columns.free_sum.Goals as goal
use Rattle.sound.proofs.columns.free_sum.Goals.{else-kind-i-eq0, then-kind-i-eq0}

pub overflow_add-sum : goal.overflow_add-sum
overflow_add-sum c =
    let l = c.loop-i in
    let k = c.args.kind.now in
    let a = c.args.area.now in
    omega (arith, c.requires, area-grows 0 k a limit (l.i + 1) (omega arith), area-here 0 k a l.i c.if-kind-i-eq0.true)

pub loop-i-preserved : goal.loop-i-preserved
loop-i-preserved c =
    let l = c.loop-i in
    let k = c.args.kind.now in
    let a = c.args.area.now in
    elim c.if-kind-i-eq0.branch [ then-kind-i-eq0 w ↦ omega (arith, w.sum-is, area-here 0 k a l.i w.if-kind-i-eq0.true) | else-kind-i-eq0 w ↦ omega (arith, w.sum-is, area-pass 0 k a l.i w.if-kind-i-eq0.false) ]

pub returns : goal.returns
returns c =
    let full : c.loop-i.i ≡ limit = omega arith in
    rw full at c.loop-i.invariant

pub loop-i-init : goal.loop-i-init
loop-i-init c = sym (area-none 0 c.args.kind.now c.args.area.now)
