-- `write::light` meets its contract. Assumes nothing.
use mathlib.Core.Path.{refl}
use Rattle.frames.proofs.Writing.{answered, and_then}
use Rattle.desk_frames.proofs.write.light.Goals as goal

pub returns : goal.returns
returns c =
    answered refl (and_then c.begin-pen.ensures (and_then c.put-said.ensures c.put_mark-next.ensures)) c.end.ensures
