-- `write::removed` meets its contract. Assumes nothing.
use Rattle.std.proofs.Common.{refl, arith}
use Rattle.frames.specs.Answers.{content_of}
use Rattle.frames.specs.Bytes.{two}
use Rattle.frames.proofs.Writing.{answered, and_then, length-each, end-room}
use Rattle.frames.proofs.write.removed.Goals as goal

pub end-requires : goal.end-requires
end-requires c =
    end-room (and_then c.begin-pen.ensures (and_then c.put_mark-one.ensures c.put_numbers-next.ensures))
    (omega (arith, c.requires, length-each two 2 (λ x. refl) c.args.numbers.now))

pub returns : goal.returns
unfolding content_of
returns c =
    answered refl (and_then c.begin-pen.ensures (and_then c.put_mark-one.ensures c.put_numbers-next.ensures)) c.end.ensures
