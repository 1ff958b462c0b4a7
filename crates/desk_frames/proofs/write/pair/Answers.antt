-- `write::pair` meets its contract. Assumes nothing.
use mathlib.Core.Path.{refl}
use Rattle.frames.proofs.Writing.{answered, and_then}
use Rattle.desk_frames.proofs.write.pair.Goals as goal

pub returns : goal.returns
returns c =
    answered refl (and_then c.begin-pen.ensures (and_then c.put-next.ensures c.put-last.ensures)) c.end.ensures
