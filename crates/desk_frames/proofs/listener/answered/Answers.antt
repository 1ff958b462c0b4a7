-- `answered` meets its contract. Assumes nothing.
use mathlib.Core.Path.{refl}
use Rattle.desk_frames.proofs.listener.answered.Goals as goal

pub returns : goal.returns
returns c = rw c.none.ensures refl
