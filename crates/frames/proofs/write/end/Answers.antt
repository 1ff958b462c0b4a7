-- `write::end` meets its contract. Assumes nothing.
use Rattle.std.proofs.Common.{arith}
use Rattle.frames.proofs.Writing.{end-put}
use Rattle.frames.proofs.write.end.Goals as goal

pub returns : goal.returns
returns c =
    end-put c.put-next.ensures (omega arith) (omega arith)
