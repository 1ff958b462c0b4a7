-- `Listing::strike` meets its contract: the place is found and the final entry takes its hole, or it is not there. Assumes nothing.
use Rattle.layout_nodes.proofs.Listed.{strike-none, strike-one}
use Rattle.layout_nodes.proofs.listing.Listing.strike.Goals as goal

pub returns-then-count-at : goal.returns-then-count-at
returns-then-count-at c =
    strike-none c.requires c.args.place c.index_of-at.ensures c.if-count-at.true

pub returns : goal.returns
returns c =
    strike-one c.requires c.args.place c.index_of-at.ensures c.if-count-at.false c.swap_out.ensures
