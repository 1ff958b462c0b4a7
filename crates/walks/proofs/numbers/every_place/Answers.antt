-- `walks::numbers::every_place` meets its contract. Assumes nothing.
use mathlib.Core.Path.{◌≡◌, refl, sym, ◌∙◌}
use Prim.Native.Nat.{◌<◌}
use native.Mathlib.Numerals.{add-one}
use native.Mathlib.Omega.{arith}
use lib.ListN.{length, length-set}
use lib.Seq.{take-suc-set, take_all}
use Rattle.lists.specs.Lists.{limit}
use Rattle.walks.specs.Along.{below}
use Rattle.walks.proofs.Entries.{below_more}
use Rattle.walks.proofs.numbers.every_place.Goals as goal

pub loop-i-preserved : goal.loop-i-preserved
loop-i-preserved c =
    let l = c.loop-i in
    let h : l.i < length l.order = omega arith in (
      length-set l.order l.i l.i ∙ l.invariant.0,
      rw (add-one l.i, take-suc-set l.order l.i l.i h, l.invariant.1) (rw (add-one l.i) at (sym (below_more l.i))),
    )

pub returns : goal.returns
returns c =
    let l = c.loop-i in
    let e : l.i ≡ limit = omega arith in
    sym (take_all limit l.order (omega arith)) ∙ (rw e at l.invariant.1)

pub loop-i-init : goal.loop-i-init
unfolding below
loop-i-init c =
    (refl, refl)
