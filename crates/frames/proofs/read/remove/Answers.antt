-- `read::remove` meets its contract. Assumes nothing.
use Rattle.frames.specs.Requests.{read_remove}
use Rattle.frames.proofs.read.remove.Goals as goal

pub returns : goal.returns
unfolding read_remove
returns c = simp c.mark_at.ensures
