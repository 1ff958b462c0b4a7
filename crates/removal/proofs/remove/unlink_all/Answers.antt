-- `unlink_all` meets its contract. The loop's invariant: the table is what is left when the first places are unlinked. Assumes nothing.
use mathlib.Core.Path.{refl, ap, ◌∙◌}
use Prim.Native.Nat.{ℕ, ◌≤◌}
use native.Mathlib.Omega.{arith}
use lib.ListN.{length}
use Rattle.lists.specs.Lists.{limit, entries}
use Rattle.table.specs.Steps.{unlink_all}
use Rattle.removal.proofs.Turns.{goes_at, turn_of, turns-end, unlink-more}
use Rattle.removal.proofs.Typed.{all-goes}
use Rattle.removal.proofs.remove.unlink_all.Goals as goal

pub loop-x-init : goal.loop-x-init
unfolding entries
loop-x-init c = refl

pub unlink-requires : goal.unlink-requires
unlink-requires c =
    let l = c.loop-x in
    let g = c.args.g in
    let h = turn_of g.order g.count l.x-index c.loop-x-test.true in
    rw (h.1, l.invariant) (goes_at limit c.args.nodes.now g.order g.count l.x-index h.0 c.requires.1)

pub loop-x-preserved : goal.loop-x-preserved
loop-x-preserved c =
    let l = c.loop-x in
    let g = c.args.g in
    let h = turn_of g.order g.count l.x-index c.loop-x-test.true in
    c.unlink.ensures ∙ rw (h.1, l.invariant, unlink-more limit c.args.nodes.now g.order l.x-index) refl

pub returns : goal.returns
returns c =
    let l = c.loop-x in
    let g = c.args.g in
    let few : g.count ≤ length g.order = omega (arith, c.requires.0, all-goes g _ c.well_formed.1.0) in
    let e = turns-end g.order g.count l.x-index few l.auto.x-index-end c.loop-x-test.false in
    l.invariant ∙ ap (λ (k : ℕ). unlink_all limit c.args.nodes.now (entries k g.order)) e
