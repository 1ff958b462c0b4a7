-- `none` meets its contract. Assumes nothing.
use Rattle.booking.proofs.new_nodes.none.Goals as goal

pub returns : goal.returns
returns c = simp c.no_new-zero.ensures
