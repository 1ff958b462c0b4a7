-- `no_node` meets its contract. Assumes nothing.
use mathlib.Core.Path.{refl}
use Rattle.table.proofs.nodes.no_node.Goals as goal

pub returns : goal.returns
returns c = rw c.no_datum.ensures refl
