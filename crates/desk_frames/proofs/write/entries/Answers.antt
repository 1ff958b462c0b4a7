-- `write::entries` meets its contract. Assumes nothing.
use mathlib.Core.Path.{refl}
use native.Mathlib.Omega.{arith}
use Rattle.frames.proofs.Writing.{answered, and_then, end-room}
use Rattle.desk_frames.proofs.write.entries.Goals as goal

pub end-requires : goal.end-requires
end-requires c =
    end-room (and_then c.begin-pen.ensures (and_then c.put_two-counted.ensures c.put_bytes-next.ensures))
    (omega (arith, c.requires))

pub returns : goal.returns
returns c =
    answered refl (and_then c.begin-pen.ensures (and_then c.put_two-counted.ensures c.put_bytes-next.ensures)) c.end.ensures
