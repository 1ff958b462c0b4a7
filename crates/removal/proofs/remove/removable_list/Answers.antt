-- `removable_list` meets its contract: by whether the parent has a child. Assumes nothing.
use mathlib.Core.Path.{◌∙◌}
use mathlib.Core.List.{List}
use Prim.Native.Nat.{ℕ}
use native.Mathlib.Omega.{arith}
use Rattle.layout_nodes.specs.Listings.{entries_of}
use Rattle.layout_nodes.proofs.Listed.{kept-as}
use Rattle.removal.specs.Going.{places}
use Rattle.removal.proofs.Struck.{stays, struck-kept, struck-room, comes_back}
use Rattle.layout_nodes.specs.declared.listing.Listing.{Listing}
use Rattle.removal.specs.declared.going.Going.{Going}
use Rattle.tree.specs.ListSteps.{strike_all}
use Rattle.removal.proofs.remove.removable_list.Goals as goal

-- what the order leaves of the list
abbrev left : Listing → Going → List ℕ
left l g = strike_all (entries_of l) (places g)

pub strike-without-requires : goal.strike-without-requires
strike-without-requires c =
    kept-as (left c.args.removable c.args.g) c.strike_all-shorter.ensures (omega (arith, c.requires.2))

pub push-requires : goal.push-requires
push-requires c =
    let a = c.args in (
      struck-kept a.parent a.q (left c.args.removable c.args.g) c.strike_all-shorter.ensures c.strike-without.ensures c.requires.2,
      struck-room a.parent a.q (left c.args.removable c.args.g) c.strike_all-shorter.ensures c.strike-without.ensures c.requires.2,
    )

pub returns-then-parent-ge-NONE : goal.returns-then-parent-ge-NONE
returns-then-parent-ge-NONE c =
    let a = c.args in
    comes_back a.parent a.q (left c.args.removable c.args.g) c.strike_all-shorter.ensures c.strike-without.ensures c.requires.2 c.if-parent-ge-NONE.true c.push.ensures

pub returns : goal.returns
returns c =
    let a = c.args in
    c.strike_all-shorter.ensures ∙ stays a.parent a.q (left c.args.removable c.args.g) c.if-parent-ge-NONE.false
