-- `without` meets its contract: what the steps ask holds where the piece may be taken out, and what they leave is the next layout.
use mathlib.Core.Path.{refl, ap, ◌∙◌}
use Prim.Native.Nat.{ℕ, ◌+◌, ◌-◌}
use native.Mathlib.Omega.{arith}
use Rattle.layout_nodes.specs.declared.LayoutNodes.{LayoutNodes}
use Rattle.removal.specs.Going.{places}
use Rattle.removal.specs.Remove.{removed_nodes}
use Rattle.layout.proofs.TakenOut.{clearable, count_most, area-most, area-fits, lists-room, place_is, next-out, numbers-few}
use Rattle.layout.proofs.layout.Layout.without.Goals as goal

pub remove-c-requires : goal.remove-c-requires
remove-c-requires c =
    (c.requires.1.room, rw c.layout_nodes.ensures (clearable c.args.self c.args.place c.requires.0 c.args.g c.requires.1))

pub overflow_sub-self : goal.overflow_sub-self
overflow_sub-self c =
    let most = count_most c.args.self c.args.place c.requires.0 c.args.g c.requires.1 in
    omega arith

pub area_along-requires : goal.area_along-requires
area_along-requires c =
    (c.requires.1.room, c.requires.1.placed, area-fits c.args.self c.args.place c.requires.0 c.args.g c.requires.1)

pub overflow_sub-self-2 : goal.overflow_sub-self-2
overflow_sub-self-2 c =
    omega (
      arith,
      c.area_along.ensures,
      area-most c.args.self c.args.place c.requires.0 c.args.g c.requires.1,
    )

pub with_nodes-next-requires : goal.with_nodes-next-requires
with_nodes-next-requires c =
    lists-room c.args.self c.args.place c.requires.0 c.args.g c.requires.1 (c.remove-c.ensures ∙ ap (λ (n : LayoutNodes). removed_nodes n (places c.args.g) c.args.place c.args.self.serial) c.layout_nodes.ensures)

pub overflow_cast-result : goal.overflow_cast-result
overflow_cast-result c =
    omega (arith, c.requires.2, numbers-few c.args.self c.args.place c.requires.0)

pub returns : goal.returns
returns c =
    let l = c.args.self in
    let used = ap (λ (n : ℕ). l.used - n) c.area_along.ensures in
    record {
      outcome = refl;
      free =
          ap (λ (q : ℕ). record { layout = l.number; place = q; serial = l.serial + 1 })
          (place_is l c.args.place c.requires.0 c.args.g c.requires.1 (c.remove-c.ensures ∙ ap (λ (n : LayoutNodes). removed_nodes n (places c.args.g) c.args.place c.args.self.serial) c.layout_nodes.ensures));
      count = c.requires.2;
      next = rw c.with_nodes-next.ensures (next-out l c.args.place c.requires.0 c.args.g c.requires.1 (c.remove-c.ensures ∙ ap (λ (n : LayoutNodes). removed_nodes n (places c.args.g) c.args.place c.args.self.serial) c.layout_nodes.ensures) refl used);
    }
