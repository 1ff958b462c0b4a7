-- `walks::snapshot::put_two` meets its contract. Assumes nothing.
use Prim.Native.Nat.{◌/◌, ◌%◌}
use native.Mathlib.Omega.{arith}
use lib.ListN.{length-set}
use Rattle.walks.proofs.NodeBytes.{two-stored}
use Rattle.walks.proofs.snapshot.put_two.Goals as goal

pub bounds-out-at-2 : goal.bounds-out-at-2
bounds-out-at-2 c =
    simp length-set (omega arith)

pub returns : goal.returns
returns c =
    let a = c.args in two-stored a.out.now a.at (a.v / 256 % 256) (a.v % 256)
