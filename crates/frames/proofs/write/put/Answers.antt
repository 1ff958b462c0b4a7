-- `write::put` meets its contract. Assumes nothing.
use Rattle.std.proofs.Common.{refl, arith, length-set}
use Rattle.frames.proofs.Writing.{put_one}
use Rattle.frames.proofs.write.put.Goals as goal

pub bounds-out-at-2 : goal.bounds-out-at-2
bounds-out-at-2 c =
    simp length-set (omega arith)

pub returns : goal.returns
returns c =
    put_one _ _ _ _ _ _ c.letter.ensures c.letter-2.ensures refl
