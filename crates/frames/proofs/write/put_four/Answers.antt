-- `write::put_four` meets its contract. Assumes nothing.
use Rattle.frames.proofs.Writing.{and_then}
use Rattle.frames.proofs.write.put_four.Goals as goal

pub returns : goal.returns
returns c =
    and_then c.put_two-next.ensures c.put_two.ensures
