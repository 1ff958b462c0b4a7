-- The sum after i places is `strips_of` of these, and no more than that of all.
use mathlib.Core.Path.{◌≡◌, sym}
use Prim.Native.Nat.{◌+◌}
use native.Mathlib.Omega.{arith}
use Rattle.lists.specs.Lists.{limit}
use Rattle.questions.proofs.EatenSum.{strips-none, strips-more, strips-grow}
use Rattle.questions.proofs.eaten.strips_of.Goals as goal

pub overflow_add-sum : goal.overflow_add-sum
overflow_add-sum c =
    let l = c.loop-i in
    let t = c.args.nodes in
    omega (arith, c.requires, strips-grow t limit (l.i + 1) (omega arith), strips-more t l.i, c.strip_of-sum.ensures)

pub loop-i-preserved : goal.loop-i-preserved
loop-i-preserved c = omega (arith, c.loop-i.invariant, strips-more c.args.nodes c.loop-i.i, c.strip_of-sum.ensures)

pub returns : goal.returns
returns c =
    let l = c.loop-i in
    let full : l.i ≡ limit = omega arith in
    rw full at l.invariant

pub loop-i-init : goal.loop-i-init
loop-i-init c = sym (strips-none _)
