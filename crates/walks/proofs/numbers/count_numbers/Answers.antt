-- `walks::numbers::count_numbers` meets its contract. Assumes nothing.
use mathlib.Core.Path.{◌≡◌, refl, ap, ◌∙◌}
use Prim.Native.Nat.{ℕ}
use native.Mathlib.Omega.{arith}
use lib.ListN.{length, get_or}
use Rattle.table.specs.Table.{at}
use Rattle.lists.specs.Lists.{entries}
use Rattle.walks.specs.Along.{number_at, numbers_along}
use Rattle.walks.proofs.Entries.{length_more}
use Rattle.walks.proofs.NodeBytes.{number-most}
use Rattle.walks.proofs.numbers.count_numbers.Goals as goal

pub overflow_add-found : goal.overflow_add-found
overflow_add-found c =
    let l = c.loop-i in
    let a = c.args in
    let d = (at a.nodes.now (get_or a.order.now l.i 0)).datum in
    let e = c.count_number-found.ensures in
    omega (arith, number-most d)

pub loop-i-preserved : goal.loop-i-preserved
loop-i-preserved c =
    let l = c.loop-i in
    let a = c.args in
    let d = (at a.nodes.now (get_or a.order.now l.i 0)).datum in
    let e = c.count_number-found.ensures in
    (omega (arith, number-most d), omega (arith, length_more (number_at a.nodes.now) a.order.now l.i))

pub returns : goal.returns
returns c =
    let a = c.args in
    let l = c.loop-i in
    let e : l.i ≡ a.count = omega arith in
    l.invariant.1 ∙ ap (λ (i : ℕ). length (numbers_along a.nodes.now (entries i a.order.now))) e

pub loop-i-init : goal.loop-i-init
unfolding entries
loop-i-init c = (omega arith, refl)
