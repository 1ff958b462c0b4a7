-- `write::reported` meets its contract. Assumes nothing.
use Rattle.std.proofs.Common.{refl}
use Rattle.frames.specs.Answers.{content_of}
use Rattle.frames.proofs.Writing.{answered, and_then}
use Rattle.frames.proofs.write.reported.Goals as goal

pub returns : goal.returns
unfolding content_of
returns c =
    let all = and_then c.begin-pen.ensures (and_then c.put_eight-one.ensures (and_then c.put-two.ensures c.put_eight-next.ensures)) in
    answered refl all c.end.ensures
