-- `read::decode` meets its contract. The loop's invariant, `Read`: the first i bytes are stored, added up and all digits. Assumes nothing.
use Rattle.frames.proofs.Decoding.{Read}
use Rattle.frames.proofs.read.decode.Given as goal

abbrev pub invariant-loop-i : goal.invariant-loop-i
invariant-loop-i l = Read l.line l.bytes l.sum l.i
