-- `write::put_eight` meets its contract. Assumes nothing.
use Rattle.frames.proofs.Writing.{and_then}
use Rattle.frames.proofs.write.put_eight.Goals as goal

pub returns : goal.returns
returns c =
    and_then c.put_four-next.ensures c.put_four.ensures
