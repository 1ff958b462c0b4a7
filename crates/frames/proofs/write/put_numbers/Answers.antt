-- `write::put_numbers` meets its contract. Assumes nothing.
use Rattle.frames.proofs.Writing.{and_then}
use Rattle.frames.proofs.write.put_numbers.Goals as goal

pub returns : goal.returns
returns c =
    and_then c.put-next.ensures c.put_twos.ensures
