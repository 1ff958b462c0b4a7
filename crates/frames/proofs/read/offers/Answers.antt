-- `read::offers` meets its contract. Assumes nothing.
use Rattle.std.proofs.Common.{le-leb}
use borrow.Author.Tests.{lt-leb}
use Rattle.frames.specs.Requests.{read_offers}
use Rattle.frames.proofs.read.offers.Goals as goal

pub returns-then-turn-gt2 : goal.returns-then-turn-gt2
unfolding read_offers
returns-then-turn-gt2 c = simp (lt-leb _ _ c.if-turn-gt2.true)

pub returns : goal.returns
unfolding read_offers
returns c = simp (le-leb _ _ c.if-turn-gt2.false, c.mark_at.ensures, c.part_at.ensures)
