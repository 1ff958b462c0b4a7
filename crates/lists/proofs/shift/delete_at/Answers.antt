-- `lists::shift::delete_at` meets its contract: the loop moves down what stands behind the index, the first entry first. Assumes nothing.
use mathlib.Core.Path.{◌≡◌}
use native.Mathlib.Omega.{arith}
use Rattle.lists.proofs.Moves.{lowered_none, lowered-more, lowered-put}
use Rattle.lists.proofs.shift.delete_at.Goals as goal

pub loop-i-init : goal.loop-i-init
loop-i-init c = (lowered_none c.args.list.now c.args.at, omega arith)

pub loop-i-preserved : goal.loop-i-preserved
loop-i-preserved c =
    let l = c.loop-i in
    let a = c.args in
    (lowered-more a.list.now l.list a.at l.i (omega arith) l.invariant.0, omega arith)

pub returns : goal.returns
returns c =
    let l = c.loop-i in
    let a = c.args in
    let e : l.i ≡ a.count = omega arith in
    lowered-put a.list.now l.list a.count a.at (omega arith) (rw e at l.invariant.0)
