-- `put_free_last` meets its contract: by whether the last child is free. Assumes nothing.
use mathlib.Core.Path.{refl}
use native.Mathlib.Omega.{arith}
use Rattle.table.specs.Steps.{free_last_place}
use Rattle.removal.proofs.going.put_free_last.Goals as goal

pub bounds-order-n : goal.bounds-order-n
unfolding free_last_place
bounds-order-n c =
    let h = rw (← c.is_free.ensures, c.if-is_free.true) at c.requires.2 in
    omega arith

pub returns-then-is_free : goal.returns-then-is_free
unfolding free_last_place
returns-then-is_free c = rw (← c.is_free.ensures, c.if-is_free.true) (record { written = refl; counted = refl })

pub returns : goal.returns
unfolding free_last_place
returns c = rw (← c.is_free.ensures, c.if-is_free.false) (record { written = refl; counted = omega arith })
