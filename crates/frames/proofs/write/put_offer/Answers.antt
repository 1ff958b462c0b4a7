-- `write::put_offer` meets its contract. Assumes nothing.
use Rattle.frames.proofs.Writing.{and_then, as_byte}
use Rattle.frames.proofs.write.put_offer.Goals as goal

pub returns : goal.returns
returns c =
    and_then (as_byte c.number.ensures c.put-next.ensures)
    (as_byte c.number-2.ensures c.put.ensures)
