-- `write::opened` meets its contract. Assumes nothing.
use Rattle.std.proofs.Common.{refl}
use Rattle.frames.specs.Answers.{content_of}
use Rattle.frames.proofs.Writing.{answered, and_then}
use Rattle.frames.proofs.write.opened.Goals as goal

pub returns : goal.returns
unfolding content_of
returns c =
    answered refl (and_then c.begin-pen.ensures c.put_mark-next.ensures) c.end.ensures
