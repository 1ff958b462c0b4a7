-- `put_tenths` meets its contract. The loop has copied the tenths of the first k entries. Assumes nothing.
use mathlib.Core.Path.{◌≡◌, refl, sym, ap, ◌∙◌}
use Prim.Native.Nat.{ℕ, ◌+◌, ◌*◌}
use native.Mathlib.Omega.{arith}
use lib.ListN.{get_or}
use lib.Seq.{sets}
use Rattle.saw.specs.Listed.{tenths_of}
use Rattle.saw.proofs.CutBytes.{tenths-more, length-tenths}
use Rattle.saw.proofs.Copied.{store-more}
use Rattle.saw.proofs.cuts.put_tenths.Goals as goal

pub loop-k-preserved : goal.loop-k-preserved
loop-k-preserved c =
    let a = c.args in
    let k = c.loop-k.k in
    store-more (tenths_of k a.list.now) a.out.now 0 k (get_or a.list.now (10 * k + 9) 0) c.loop-k.invariant
    (omega (arith, length-tenths k a.list.now))
    ∙ ap (sets a.out.now 0) (sym (tenths-more k a.list.now))

pub returns : goal.returns
returns c =
    let a = c.args in
    let e : c.loop-k.k ≡ a.n = omega arith in
    c.loop-k.invariant ∙ ap (λ (k : ℕ). sets a.out.now 0 (tenths_of k a.list.now)) e

pub loop-k-init : goal.loop-k-init
unfolding tenths_of
loop-k-init c = refl
