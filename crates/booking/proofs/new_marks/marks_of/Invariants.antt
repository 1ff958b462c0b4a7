-- `marks_of` meets its contract. The loop's invariant is `Noted` of proofs/Marked.antt. Assumes nothing.
use lib.ListN.{drop}
use Rattle.booking.specs.NewNodes.{those}
use Rattle.booking.proofs.Marked.{Noted}
use Rattle.booking.proofs.new_marks.marks_of.Given as goal

abbrev pub invariant-loop-n : goal.invariant-loop-n
invariant-loop-n l = Noted l.number (those l.fn.new) (drop l.n-index (those l.fn.new)) l.frees l.found
