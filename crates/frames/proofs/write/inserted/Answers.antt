-- `write::inserted` meets its contract. Assumes nothing.
use Rattle.std.proofs.Common.{refl, arith}
use Rattle.frames.specs.Answers.{content_of}
use Rattle.frames.specs.Fields.{mark_bytes}
use Rattle.frames.proofs.Writing.{answered, and_then, length-each, end-room}
use Rattle.frames.proofs.write.inserted.Goals as goal

pub end-requires : goal.end-requires
end-requires c =
    end-room (and_then c.begin-pen.ensures (and_then c.put_mark-one.ensures (and_then c.put_mark-two.ensures c.put_marks-next.ensures)))
    (omega (arith, c.requires, length-each mark_bytes 7 (λ x. refl) c.args.frees.now))

pub returns : goal.returns
unfolding content_of
returns c =
    answered refl
    (and_then c.begin-pen.ensures (and_then c.put_mark-one.ensures (and_then c.put_mark-two.ensures c.put_marks-next.ensures)))
    c.end.ensures
