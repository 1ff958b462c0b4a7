-- `read::size_at` meets its contract. Assumes nothing.
use Rattle.frames.proofs.read.size_at.Goals as goal

pub returns : goal.returns
returns c = simp (c.four_at.ensures, c.four_at-2.ensures)
