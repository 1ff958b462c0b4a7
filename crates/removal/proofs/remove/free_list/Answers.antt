-- `free_list` meets its contract. Assumes nothing.
use mathlib.Core.Path.{refl, ap, ◌∙◌}
use native.Mathlib.Omega.{arith}
use Rattle.layout_nodes.specs.declared.listing.Listing.{Listing}
use Rattle.layout_nodes.specs.Listings.{entries_of}
use Rattle.layout_nodes.proofs.Listed.{entries-are, kept-as}
use Rattle.removal.specs.Going.{places}
use Rattle.tree.specs.ListSteps.{omit_all}
use Rattle.removal.proofs.remove.free_list.Goals as goal

pub put-requires : goal.put-requires
put-requires c =
    let xs = omit_all (entries_of c.args.free) (places c.args.g) in
    let n = ap (λ (l : Listing). l.count) c.omit_all-shorter.ensures in
    (kept-as xs c.omit_all-shorter.ensures (omega (arith, c.requires.2)), omega (arith, c.requires.2))

pub returns : goal.returns
returns c =
    let a = c.args in
    let xs = omit_all (entries_of a.free) (places a.g) in
    c.put.ensures
    ∙ rw (entries-are xs c.omit_all-shorter.ensures) refl
