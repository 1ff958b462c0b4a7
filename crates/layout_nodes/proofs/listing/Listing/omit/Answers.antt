-- `Listing::omit` meets its contract: the place is found and deleted, or is not there. Assumes nothing.
use Rattle.layout_nodes.proofs.Listed.{cut-none, cut-one}
use Rattle.layout_nodes.proofs.listing.Listing.omit.Goals as goal

pub returns-then-count-at : goal.returns-then-count-at
returns-then-count-at c =
    cut-none c.requires c.args.place c.index_of-at.ensures c.if-count-at.true

pub returns : goal.returns
returns c =
    cut-one c.requires c.args.place c.index_of-at.ensures c.if-count-at.false c.delete_at.ensures
