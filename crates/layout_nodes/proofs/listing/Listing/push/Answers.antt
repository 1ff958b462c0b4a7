-- `Listing::push` meets its contract: a store behind the entries. Assumes nothing.
use Rattle.layout_nodes.proofs.Listed.{push-one}
use Rattle.layout_nodes.proofs.listing.Listing.push.Goals as goal

pub returns : goal.returns
returns c =
    push-one c.requires.0 c.args.place c.requires.1
