-- `write::numbers` meets its contract. Assumes nothing.
use mathlib.Core.Path.{refl}
use native.Mathlib.Omega.{arith}
use Rattle.frames.specs.Bytes.{two}
use Rattle.frames.proofs.Writing.{answered, and_then, length_taken, end-room}
use Rattle.desk_frames.proofs.write.numbers.Goals as goal

pub end-requires : goal.end-requires
end-requires c =
    end-room (and_then c.begin-pen.ensures (and_then c.put_two-counted.ensures c.put_twos-next.ensures))
    (omega (arith, c.requires, length_taken two 2 (λ x. refl) c.args.numbers.now c.args.count (omega arith)))

pub returns : goal.returns
returns c =
    answered refl (and_then c.begin-pen.ensures (and_then c.put_two-counted.ensures c.put_twos-next.ensures)) c.end.ensures
