-- `put_nine` meets its contract. The loop has copied the first j bytes. Assumes nothing.
use mathlib.Core.Path.{◌≡◌, refl, ap, ◌∙◌}
use Prim.Native.Nat.{ℕ}
use native.Mathlib.Omega.{arith}
use lib.ListN.{take, drop}
use lib.Seq.{sets}
use Rattle.saw.proofs.Copied.{copy_more}
use Rattle.saw.proofs.cuts.put_nine.Goals as goal

pub loop-j-preserved : goal.loop-j-preserved
loop-j-preserved c =
    let a = c.args in
    copy_more a.list.now a.out.now a.from a.to c.loop-j.j (omega arith) c.loop-j.invariant

pub returns : goal.returns
returns c =
    let a = c.args in
    let e : c.loop-j.j ≡ 9 = omega arith in
    c.loop-j.invariant ∙ ap (λ (j : ℕ). sets a.out.now a.to (take j (drop a.from a.list.now))) e

pub loop-j-init : goal.loop-j-init
loop-j-init c = refl
