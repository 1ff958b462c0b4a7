-- `walks::numbers::put_number` meets its contract: by whether the piece is a part. Assumes nothing.
use mathlib.Core.Path.{refl}
use native.Mathlib.Omega.{arith}
use Rattle.walks.proofs.numbers.put_number.Goals as goal

pub bounds-out-n : goal.bounds-out-n
bounds-out-n c =
    let h = rw (← c.is_part.ensures, c.if-is_part.true) at c.requires in omega arith

pub returns-then-is_part : goal.returns-then-is_part
returns-then-is_part c =
    rw (← c.is_part.ensures, c.if-is_part.true) record { written = refl; counted = refl }

pub returns-else-is_part : goal.returns-else-is_part
returns-else-is_part c =
    rw (← c.is_part.ensures, c.if-is_part.false) record { written = refl; counted = omega arith }
