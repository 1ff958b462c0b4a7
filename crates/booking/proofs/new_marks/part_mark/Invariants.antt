-- `part_mark` meets its contract. The loop's invariant: the first part is among those still to come. Assumes nothing.
use mathlib.Core.Path.{◌≡◌}
use lib.ListN.{drop}
use Rattle.piece.specs.Kinds.{is_part}
use Rattle.booking.specs.NewNodes.{those}
use Rattle.booking.specs.Marks.{head_mark, marks_of}
use Rattle.booking.proofs.new_marks.part_mark.Given as goal

abbrev pub invariant-loop-n : goal.invariant-loop-n
invariant-loop-n l =
    head_mark (marks_of l.number is_part (drop l.n-index (those l.fn.new))) ≡ head_mark (marks_of l.number is_part (those l.fn.new))
