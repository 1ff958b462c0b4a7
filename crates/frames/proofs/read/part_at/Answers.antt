-- `read::part_at` meets its contract. Assumes nothing.
use Rattle.frames.proofs.Fields.{turn-place}
use Rattle.frames.proofs.read.part_at.Goals as goal

pub returns : goal.returns
returns c = simp (c.two_at.ensures, c.size_at.ensures, c.fixed_rotation_of.ensures, turn-place)
