-- `fresh` meets its contract.
use mathlib.Core.Path.{refl}
use Rattle.lists.specs.Lists.{padded}
use Rattle.layout.specs.Open.{fresh_layout}
use Rattle.layout.proofs.layout.Layout.fresh.Goals as goal

pub returns : goal.returns
unfolding fresh_layout padded
returns c = rw c.fresh_nodes-nodes.ensures refl
