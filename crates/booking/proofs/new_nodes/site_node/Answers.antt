-- `site_node` meets its contract. Assumes nothing.
use Rattle.booking.proofs.new_nodes.site_node.Goals as goal

pub returns : goal.returns
returns c = simp c.number_of.ensures
