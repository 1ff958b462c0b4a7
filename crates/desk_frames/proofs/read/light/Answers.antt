-- `read::light` meets its contract. Assumes nothing.
use borrow.Author.Tests.{le-leb, lt-leb}
use Rattle.desk_frames.specs.Requests.{read_light}
use Rattle.desk_frames.proofs.read.light.Goals as goal

pub returns-then-turn-gt2 : goal.returns-then-turn-gt2
unfolding read_light
returns-then-turn-gt2 c = simp (c.no.ensures, lt-leb _ _ c.if-turn-gt2.true)

pub returns : goal.returns
unfolding read_light
returns c = simp (le-leb _ _ c.if-turn-gt2.false, c.part_at.ensures)
