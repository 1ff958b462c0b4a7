-- `read::own` meets its contract. Assumes nothing.
use borrow.Author.Tests.{le-leb, lt-leb}
use Rattle.desk_frames.proofs.read.own.Goals as goal

pub returns-then-op-ge-WHY_NOT : goal.returns-then-op-ge-WHY_NOT
returns-then-op-ge-WHY_NOT c = simp (le-leb _ _ c.if-op-ge-WHY_NOT.true)

pub returns-else-op-ge-WHY_NOT : goal.returns-else-op-ge-WHY_NOT
returns-else-op-ge-WHY_NOT c = simp (lt-leb _ _ c.if-op-ge-WHY_NOT.false)
