-- `put_nines` meets its contract. The loop has copied the cuts of the first k entries. Assumes nothing.
use mathlib.Core.Path.{◌≡◌, refl, ap, ◌∙◌}
use Prim.Native.Nat.{ℕ}
use native.Mathlib.Omega.{arith}
use lib.Seq.{sets}
use Rattle.saw.specs.Listed.{nines_of}
use Rattle.saw.proofs.CutBytes.{nines-stored}
use Rattle.saw.proofs.cuts.put_nines.Goals as goal

pub loop-k-preserved : goal.loop-k-preserved
loop-k-preserved c =
    let a = c.args in
    nines-stored a.list.now a.out.now c.loop-k.k (omega arith) c.loop-k.invariant c.put_nine.ensures

pub returns : goal.returns
returns c =
    let a = c.args in
    let e : c.loop-k.k ≡ a.n = omega arith in
    c.loop-k.invariant ∙ ap (λ (k : ℕ). sets a.out.now 0 (nines_of k a.list.now)) e

pub loop-k-init : goal.loop-k-init
unfolding nines_of
loop-k-init c = refl

pub put_nine-requires : goal.put_nine-requires
put_nine-requires c =
    (omega arith, omega arith)
