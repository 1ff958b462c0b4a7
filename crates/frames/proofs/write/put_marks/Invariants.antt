-- `write::put_marks` meets its contract. The loop has written the first marks. Assumes nothing.
use Rattle.std.proofs.Common.{take}
use Rattle.frames.specs.Answers.{each}
use Rattle.frames.specs.Writing.{Wrote}
use Rattle.frames.specs.Fields.{mark_bytes}
use Rattle.frames.proofs.write.put_marks.Given as goal

abbrev pub invariant-loop-mark : goal.invariant-loop-mark
invariant-loop-mark l = Wrote l.initial.out l.initial.next (each mark_bytes (take l.mark-index l.marks)) l.out l.next
