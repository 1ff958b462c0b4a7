-- `write::begin` meets its contract. Assumes nothing.
use Rattle.frames.proofs.Writing.{and_then}
use Rattle.frames.proofs.write.begin.Goals as goal

pub returns : goal.returns
returns c =
    and_then c.put-next.ensures c.put.ensures
