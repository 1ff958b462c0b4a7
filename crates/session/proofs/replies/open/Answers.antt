-- `open` meets its contract, accepted and refused. Assumes nothing.
use mathlib.Core.Path.{refl}
use Rattle.session.proofs.Ways.{open_gives}
use Rattle.session.proofs.replies.open.Goals as goal

pub returns-in-Ok : goal.returns-in-Ok
returns-in-Ok c =
    let a = c.args in
    rw c.accepted.ensures
    (open_gives a.layout a.opening c.open-opened.ensures c.in-Ok.is (λ _. refl) refl
    c.opened.ensures)

pub returns-in-Err : goal.returns-in-Err
returns-in-Err c =
    let a = c.args in
    rw c.refused-in-Err.ensures
    (open_gives a.layout a.opening c.open-opened.ensures c.in-Err.is (λ _. refl) refl
    c.refused.ensures)
