-- `write::put_twos` meets its contract. The loop has written the first numbers. Assumes nothing.
use Rattle.std.proofs.Common.{take}
use Rattle.frames.specs.Answers.{each}
use Rattle.frames.specs.Writing.{Wrote}
use Rattle.frames.specs.Bytes.{two}
use Rattle.frames.proofs.write.put_twos.Given as goal

abbrev pub invariant-loop-number : goal.invariant-loop-number
invariant-loop-number l = Wrote l.initial.out l.initial.next (each two (take l.number-index l.numbers)) l.out l.next
