-- `marks::no_marks` meets its contract. Assumes nothing.
use mathlib.Core.Path.{refl}
use Rattle.booking.proofs.new_marks.no_marks.Goals as goal

pub returns : goal.returns
returns c = rw c.zero-zero.ensures refl
