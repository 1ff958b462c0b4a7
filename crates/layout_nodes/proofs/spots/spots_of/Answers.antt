-- `spots::spots_of` meets its contract: the column says where the entries that the loop has passed stand first. Assumes nothing.
use Prim.Native.Nat.{◌-◌}
use native.Mathlib.Omega.{arith}
use Rattle.layout_nodes.proofs.Lookup.{spotting-none, spotting-more, spotting-past, spotting-all}
use Rattle.layout_nodes.proofs.spots.spots_of.Goals as goal

pub loop-j-init : goal.loop-j-init
loop-j-init c = spotting-none c.args.list.now c.args.count

pub loop-j-preserved-then-p-lt-LIMIT : goal.loop-j-preserved-then-p-lt-LIMIT
loop-j-preserved-then-p-lt-LIMIT c =
    let l = c.loop-j in
    let a = c.args in
    spotting-more a.list.now a.count (l.j - 1) (omega arith) (omega arith) l.invariant c.if-p-lt-LIMIT.true

pub loop-j-preserved : goal.loop-j-preserved
loop-j-preserved c =
    let l = c.loop-j in
    let a = c.args in
    spotting-past a.list.now a.count (l.j - 1) (omega arith) (omega arith) l.invariant c.if-p-lt-LIMIT.false

pub returns : goal.returns
returns c = spotting-all c.args.list.now c.args.count (omega arith) c.loop-j.invariant
