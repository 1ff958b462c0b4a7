-- `emptied` meets its contract: what goes is what `going_bare` gives, no number comes out, and what the steps leave is the next layout.
use mathlib.Core.Path.{refl, sym, ap, ◌∙◌}
use Prim.Native.Nat.{ℕ, ◌+◌}
use native.Mathlib.Omega.{arith}
use lib.ListN.{length}
use Rattle.layout_nodes.specs.declared.LayoutNodes.{LayoutNodes}
use Rattle.removal.specs.Going.{places}
use Rattle.removal.specs.Remove.{removed_nodes}
use Rattle.layout.proofs.TakenOut.{clearable, count_most, lists-room, place_is, next-out}
use Rattle.layout.proofs.TidyEnds.{bare-asked, bare-few, bare-leaves, bare-used}
use Rattle.layout.proofs.layout.Layout.emptied.Goals as goal

pub going_bare-g-requires : goal.going_bare-g-requires
going_bare-g-requires c = bare-asked c.args.self c.args.place c.requires.0 c.requires.2

pub remove-c-requires : goal.remove-c-requires
remove-c-requires c =
    let out = bare-leaves c.args.self c.args.place c.requires.0 c.requires.2 c.going_bare-g.result (c.going_bare-g.ensures.entries, (c.going_bare-g.ensures.counted, c.going_bare-g.ensures.placed)) in
    (out.room, rw c.layout_nodes.ensures (clearable c.args.self c.args.place c.requires.0 c.going_bare-g.result out))

pub overflow_cast-g : goal.overflow_cast-g
overflow_cast-g c = omega (arith, (bare-few c.args.self c.args.place c.requires.0 c.requires.2 c.going_bare-g.result (c.going_bare-g.ensures.entries, (c.going_bare-g.ensures.counted, c.going_bare-g.ensures.placed))).1)

pub overflow_sub-self : goal.overflow_sub-self
overflow_sub-self c =
    let most = count_most c.args.self c.args.place c.requires.0 c.going_bare-g.result (bare-leaves c.args.self c.args.place c.requires.0 c.requires.2 c.going_bare-g.result (c.going_bare-g.ensures.entries, (c.going_bare-g.ensures.counted, c.going_bare-g.ensures.placed))) in
    omega arith

pub with_nodes-next-requires : goal.with_nodes-next-requires
with_nodes-next-requires c =
    lists-room c.args.self c.args.place c.requires.0 c.going_bare-g.result (bare-leaves c.args.self c.args.place c.requires.0 c.requires.2 c.going_bare-g.result (c.going_bare-g.ensures.entries, (c.going_bare-g.ensures.counted, c.going_bare-g.ensures.placed))) (c.remove-c.ensures ∙ ap (λ (n : LayoutNodes). removed_nodes n (places c.going_bare-g.result) c.args.place c.args.self.serial) c.layout_nodes.ensures)

pub returns : goal.returns
returns c =
    let l = c.args.self in
    let g = c.going_bare-g.result in
    let used = bare-used l c.args.place c.requires.0 c.requires.2 g (c.going_bare-g.ensures.entries, (c.going_bare-g.ensures.counted, c.going_bare-g.ensures.placed)) in
    record {
      outcome = refl;
      free =
          ap (λ (q : ℕ). record { layout = l.number; place = q; serial = l.serial + 1 })
          (place_is l c.args.place c.requires.0 g (bare-leaves c.args.self c.args.place c.requires.0 c.requires.2 c.going_bare-g.result (c.going_bare-g.ensures.entries, (c.going_bare-g.ensures.counted, c.going_bare-g.ensures.placed))) (c.remove-c.ensures ∙ ap (λ (n : LayoutNodes). removed_nodes n (places c.going_bare-g.result) c.args.place c.args.self.serial) c.layout_nodes.ensures));
      count = sym (ap length c.requires.1);
      next = rw c.with_nodes-next.ensures (next-out l c.args.place c.requires.0 g (bare-leaves c.args.self c.args.place c.requires.0 c.requires.2 c.going_bare-g.result (c.going_bare-g.ensures.entries, (c.going_bare-g.ensures.counted, c.going_bare-g.ensures.placed))) (c.remove-c.ensures ∙ ap (λ (n : LayoutNodes). removed_nodes n (places c.going_bare-g.result) c.args.place c.args.self.serial) c.layout_nodes.ensures) refl used);
    }
