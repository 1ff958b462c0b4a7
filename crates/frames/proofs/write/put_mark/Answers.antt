-- `write::put_mark` meets its contract. Assumes nothing.
use Rattle.frames.proofs.Writing.{and_then}
use Rattle.frames.proofs.write.put_mark.Goals as goal

pub returns : goal.returns
returns c =
    and_then (and_then c.put_two-layout.ensures c.put-place.ensures) c.put_four.ensures
