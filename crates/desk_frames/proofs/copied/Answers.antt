-- `copied` meets its contract. Assumes nothing.
use mathlib.Core.Path.{refl}
use Rattle.desk_frames.proofs.copied.Goals as goal

pub returns : goal.returns
returns c = record { result = refl; written = c.copy_first.ensures }
