-- `deeper` meets its contract. Assumes nothing.
use borrow.Author.Tests.{lt-ltb, le-ltb}
use Rattle.booking.proofs.new_nodes.deeper.Goals as goal

pub returns-then-level-lt255 : goal.returns-then-level-lt255
returns-then-level-lt255 c = simp (lt-ltb _ _ c.if-level-lt255.true)

pub returns-else-level-lt255 : goal.returns-else-level-lt255
returns-else-level-lt255 c = simp (le-ltb _ _ c.if-level-lt255.false)
