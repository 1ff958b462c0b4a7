-- `read::open` meets its contract. Assumes nothing.
use Rattle.frames.specs.Requests.{read_open}
use Rattle.frames.proofs.Fields.{is_listed, not-listed}
use Rattle.frames.proofs.read.open.Goals as goal

pub returns-in_default : goal.returns-in_default
unfolding read_open
returns-in_default c = simp (not-listed _ _ _ c.in_default.ensures)

pub returns : goal.returns
unfolding read_open
returns c =
    let e = is_listed _ _ _ c.in-Ok.ensures in
    simp (e.0, e.1, c.two_at.ensures, c.size_at.ensures)
