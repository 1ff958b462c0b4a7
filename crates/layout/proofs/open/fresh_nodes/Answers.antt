-- `fresh_nodes` meets its contract: the two stores make the table that appending makes.
use mathlib.Core.Path.{refl}
use Rattle.table.specs.Table.{append}
use Rattle.table.specs.Steps.{top_only}
use Rattle.layout.specs.Open.{fresh_nodes}
use Rattle.layout.proofs.open.fresh_nodes.Goals as goal

pub returns : goal.returns
unfolding fresh_nodes append top_only
returns c = rw (← c.rotate-other.ensures, c.empty_table-nodes.ensures) refl
