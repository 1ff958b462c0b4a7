-- `table::nodes::empty_table` meets its contract: the repeated entry is the zero node. Assumes nothing.
use mathlib.Core.Path.{ap}
use lib.ListN.{replicate}
use Rattle.lists.specs.Lists.{limit}
use Rattle.table.specs.declared.Node.{Node}
use Rattle.table.proofs.nodes.empty_table.Goals as goal

pub returns : goal.returns
returns c = ap (λ (n : Node). replicate limit n) c.no_node-zero.ensures
