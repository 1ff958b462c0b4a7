-- `write::count` meets its contract. Assumes nothing.
use mathlib.Core.Path.{refl}
use Rattle.frames.proofs.Writing.{answered, and_then}
use Rattle.desk_frames.proofs.write.count.Goals as goal

pub returns : goal.returns
returns c =
    answered refl (and_then c.begin-pen.ensures c.put_two-next.ensures) c.end.ensures
