-- `finish` meets its contract, with a last line and without. Assumes nothing.
use Rattle.desk_frames.proofs.Listening.{ends-cut, ends-clean}
use Rattle.desk_frames.proofs.listener.finish.Goals as goal

pub returns-then-cut : goal.returns-then-cut
returns-then-cut c =
    let a = c.args in
    rw c.answered.ensures (ends-cut a.listener c.cut.ensures c.if-cut.true c.malformed.ensures)

pub returns-else-cut : goal.returns-else-cut
returns-else-cut c =
    let a = c.args in
    rw (c.unanswered.ensures, c.none.ensures) (ends-clean a.listener c.cut.ensures c.if-cut.false)
