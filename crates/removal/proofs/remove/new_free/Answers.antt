-- `new_free` meets its contract. Assumes nothing.
use mathlib.Core.Path.{refl}
use Rattle.removal.proofs.remove.new_free.Goals as goal

pub returns : goal.returns
returns c = rw c.board_with.ensures refl
