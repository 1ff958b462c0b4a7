-- `write::put_bytes` meets its contract. The loop has written the first bytes. Assumes nothing.
use Rattle.std.proofs.Common.{take}
use Rattle.frames.specs.Answers.{each}
use Rattle.frames.specs.Writing.{Wrote}
use Rattle.frames.proofs.Writing.{itself}
use Rattle.frames.proofs.write.put_bytes.Given as goal

abbrev pub invariant-loop-byte : goal.invariant-loop-byte
invariant-loop-byte l = Wrote l.initial.out l.initial.next (each itself (take l.byte-index l.bytes)) l.out l.next
