-- `write::malformed` meets its contract. Assumes nothing.
use Rattle.std.proofs.Common.{refl}
use Rattle.frames.specs.Answers.{content_of}
use Rattle.frames.proofs.Writing.{answered}
use Rattle.frames.proofs.write.malformed.Goals as goal

pub returns : goal.returns
unfolding content_of
returns c =
    answered (rw c.number.ensures refl) c.begin-pen.ensures c.end.ensures
