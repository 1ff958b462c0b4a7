-- `lists::shift::insert_at` meets its contract: the loop moves up what stands from the index on, the last entry first. Assumes nothing.
use mathlib.Core.Path.{◌≡◌}
use Prim.Native.Nat.{◌+◌, ◌-◌}
use native.Mathlib.Omega.{arith}
use Rattle.lists.proofs.Moves.{raised-none, raised-more, raised-put}
use Rattle.lists.proofs.shift.insert_at.Goals as goal

pub loop-i-init : goal.loop-i-init
loop-i-init c = (omega arith, raised-none c.args.list.now c.args.count)

pub loop-i-preserved : goal.loop-i-preserved
loop-i-preserved c =
    let l = c.loop-i in
    let a = c.args in (
      omega arith,
      rw l.invariant.1 (raised-more a.list.now a.count (l.i - 1) l.i (l.i - 1 + 1) (omega arith) (omega arith) (omega arith)),
    )

pub returns : goal.returns
returns c =
    let l = c.loop-i in
    let a = c.args in
    let e : l.i ≡ a.at = omega arith in
    rw (l.invariant.1, e) (raised-put a.list.now a.count a.at a.place)
