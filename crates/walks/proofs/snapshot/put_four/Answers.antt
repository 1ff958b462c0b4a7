-- `walks::snapshot::put_four` meets its contract. Assumes nothing.
use Prim.Native.Nat.{◌/◌, ◌%◌}
use native.Mathlib.Omega.{arith}
use lib.ListN.{length-set}
use Rattle.walks.proofs.NodeBytes.{four-stored}
use Rattle.walks.proofs.snapshot.put_four.Goals as goal

pub returns : goal.returns
returns c =
    let a = c.args in
    four-stored a.out.now a.at (a.v / 16777216 % 256) (a.v / 65536 % 256) (a.v / 256 % 256) (a.v % 256)

pub bounds-out-at-2 : goal.bounds-out-at-2
bounds-out-at-2 c =
    simp length-set (omega arith)

pub bounds-out-at-3 : goal.bounds-out-at-3
bounds-out-at-3 c =
    simp length-set (omega arith)

pub bounds-out-at-4 : goal.bounds-out-at-4
bounds-out-at-4 c =
    simp length-set (omega arith)
