-- `read::mark_at` meets its contract. Assumes nothing.
use Rattle.frames.proofs.Fields.{serial-place}
use Rattle.frames.proofs.read.mark_at.Goals as goal

pub returns : goal.returns
returns c = simp (c.two_at.ensures, c.wide.ensures, c.four_at.ensures, serial-place)
