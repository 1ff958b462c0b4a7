-- `read::why_not` meets its contract. Assumes nothing.
use borrow.Author.Tests.{le-leb, lt-leb}
use Rattle.desk_frames.specs.Requests.{read_why_not}
use Rattle.desk_frames.proofs.read.why_not.Goals as goal

pub returns-then-turn-gt2 : goal.returns-then-turn-gt2
unfolding read_why_not
returns-then-turn-gt2 c = simp (c.no.ensures, lt-leb _ _ c.if-turn-gt2.true)

pub returns : goal.returns
unfolding read_why_not
returns c = simp (le-leb _ _ c.if-turn-gt2.false, c.mark_at.ensures, c.part_at.ensures)
