-- `answered` meets its contract. Assumes nothing.
use mathlib.Core.Path.{refl}
use Rattle.session.proofs.listener.answered.Goals as goal

pub returns : goal.returns
returns c = rw c.none.ensures refl
