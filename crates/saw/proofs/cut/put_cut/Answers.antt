-- `saw::cut::put_cut` meets its contract: what `put_two` and `put_four` write, with the bytes between and behind, are the entry's. Assumes nothing.
use mathlib.Core.Path.{ap, ◌∙◌}
use native.Mathlib.Omega.{arith}
use lib.ListN.{length, length-set}
use lib.Seq.{length-sets}
use Rattle.saw.proofs.CutBytes.{cut-stored}
use Rattle.saw.proofs.cut.put_cut.Goals as goal

pub put_four-requires : goal.put_four-requires
put_four-requires c =
    let e = simp length-sets at (ap length c.put_two.ensures) in
    simp length-set (omega arith)

pub bounds-out-at-2 : goal.bounds-out-at-2
bounds-out-at-2 c =
    let e = simp length-sets at (ap length c.put_two.ensures) in
    let f = simp (length-sets, length-set) at (ap length c.put_four.ensures) in
    omega arith

pub bounds-out-at-3 : goal.bounds-out-at-3
bounds-out-at-3 c =
    let e = simp length-sets at (ap length c.put_two.ensures) in
    let f = simp (length-sets, length-set) at (ap length c.put_four.ensures) in
    simp length-set (omega arith)

pub bounds-out-at-4 : goal.bounds-out-at-4
bounds-out-at-4 c =
    let e = simp length-sets at (ap length c.put_two.ensures) in
    let f = simp (length-sets, length-set) at (ap length c.put_four.ensures) in
    simp length-set (omega arith)

pub returns : goal.returns
returns c =
    let a = c.args in
    cut-stored a.out.now a.at a.cut _ _ _
    c.put_two.ensures
    c.number.ensures
    c.put_four.ensures

pub shape_of-out : goal.shape_of-out
shape_of-out c = ap length (returns c) ∙ simp length-sets
