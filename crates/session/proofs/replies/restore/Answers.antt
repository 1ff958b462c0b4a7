-- `restore` meets its contract, accepted and refused. Assumes nothing.
use mathlib.Core.Path.{refl}
use Rattle.session.proofs.Ways.{restore-gives}
use Rattle.session.proofs.replies.restore.Goals as goal

pub returns-in-Ok : goal.returns-in-Ok
returns-in-Ok c =
    let a = c.args in
    rw c.accepted.ensures
    (restore-gives a.layout a.kept c.restore-answer.ensures c.in-Ok.is refl c.done.ensures)

pub returns-in-Err : goal.returns-in-Err
returns-in-Err c =
    let a = c.args in
    rw c.refused-in-Err.ensures
    (restore-gives a.layout a.kept c.restore-answer.ensures c.in-Err.is refl c.refused.ensures)
