-- `no_new` meets its contract. Assumes nothing.
use mathlib.Core.Path.{refl}
use Rattle.booking.proofs.new_nodes.no_new.Goals as goal

pub returns : goal.returns
returns c = rw c.no_datum.ensures refl
