-- `area_along` meets its contract. The loop's invariant: the sum is the area along the first places. Assumes nothing.
use mathlib.Core.Path.{refl, ap, ◌∙◌}
use Prim.Native.Nat.{ℕ, ◌≤◌}
use native.Mathlib.Omega.{arith}
use lib.ListN.{length}
use Rattle.lists.specs.Lists.{entries}
use Rattle.removal.specs.Going.{area_along}
use Rattle.removal.proofs.Turns.{area-more, area-most, turn_of, turns-end}
use Rattle.removal.proofs.Typed.{all-goes}
use Rattle.removal.proofs.remove.area_along.Goals as goal

pub loop-p-init : goal.loop-p-init
unfolding entries
loop-p-init c = refl

pub bounds-nodes-p : goal.bounds-nodes-p
bounds-nodes-p c =
    let g = c.args.g in
    let h = turn_of g.order g.count c.loop-p.p-index c.loop-p-test.true in
    rw h.1 (c.requires.1 c.loop-p.p-index h.0)

pub overflow_add-sum : goal.overflow_add-sum
overflow_add-sum c =
    let l = c.loop-p in
    let g = c.args.g in
    let h = turn_of g.order g.count l.p-index c.loop-p-test.true in
    let e = rw h.1 at c.part_area-sum.ensures in
    omega (arith, e, area-most c.args.nodes.now g.order g.count l.p-index h.0, c.requires.2)

pub loop-p-preserved : goal.loop-p-preserved
loop-p-preserved c =
    let l = c.loop-p in
    let g = c.args.g in
    let h = turn_of g.order g.count l.p-index c.loop-p-test.true in
    let e = rw h.1 at c.part_area-sum.ensures in
    omega (arith, e, area-more c.args.nodes.now g.order l.p-index)

pub returns : goal.returns
returns c =
    let l = c.loop-p in
    let g = c.args.g in
    let few : g.count ≤ length g.order = omega (arith, c.requires.0, all-goes g _ c.well_formed.1.0) in
    let e = turns-end g.order g.count l.p-index few l.auto.p-index-end c.loop-p-test.false in
    l.invariant ∙ ap (λ (k : ℕ). area_along c.args.nodes.now (entries k g.order)) e
