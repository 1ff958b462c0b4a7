-- `insert` meets its contract, accepted and refused. Assumes nothing.
use mathlib.Core.Path.{refl}
use Rattle.layout.proofs.Answered.{insert-says}
use Rattle.session.proofs.Ways.{insert-gives}
use Rattle.session.proofs.replies.insert.Goals as goal

pub inserted-requires : goal.inserted-requires
inserted-requires c =
    let a = c.args in
    insert-says a.layout a.mark a.part a.rotation a.shape _ c.insert-answer.ensures c.in-Ok.is

pub returns-in-Ok : goal.returns-in-Ok
returns-in-Ok c =
    let a = c.args in
    rw c.accepted.ensures
    (insert-gives a.layout a.mark a.part a.rotation a.shape _ c.insert-answer.ensures c.in-Ok.is refl c.inserted.ensures)

pub returns-in-Err : goal.returns-in-Err
returns-in-Err c =
    let a = c.args in
    rw c.refused-in-Err.ensures
    (insert-gives a.layout a.mark a.part a.rotation a.shape _ c.insert-answer.ensures c.in-Err.is refl c.refused.ensures)
