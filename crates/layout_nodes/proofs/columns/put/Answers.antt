-- `columns::put` meets its contract: the place goes in where the search says. Assumes nothing.
use native.Mathlib.Omega.{arith}
use Rattle.layout_nodes.specs.Listings.{area_at, entries_of}
use Rattle.layout_nodes.proofs.Listed.{length-entries, berth-most, put_one}
use Rattle.layout_nodes.proofs.columns.put.Goals as goal

pub insert_at-requires : goal.insert_at-requires
insert_at-requires c =
    let e = c.berth-at.ensures in
    let n = length-entries c.requires.0 in
    let m = berth-most (area_at c.args.areas.now) (entries_of c.args.listing) c.args.place in
    (omega arith, c.requires.1)

pub returns : goal.returns
returns c =
    let b = c.berth-at in
    put_one c.requires.0 c.args.place (area_at c.args.areas.now) b.ensures c.requires.1 c.insert_at.ensures
