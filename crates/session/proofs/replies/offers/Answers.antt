-- `offers` meets its contract, accepted and refused. Assumes nothing.
use mathlib.Core.Path.{refl, sym}
use Rattle.session.proofs.Ways.{offers-gives, offers-four}
use Rattle.session.proofs.replies.offers.Goals as goal

pub offered-requires : goal.offered-requires
offered-requires c =
    let a = c.args in
    rw (sym c.in-Ok.ensures) at (offers-four a.layout a.mark a.part)

pub returns-in-Ok : goal.returns-in-Ok
returns-in-Ok c =
    let a = c.args in
    rw c.accepted.ensures
    (offers-gives a.layout a.mark a.part c.in-Ok.ensures refl c.offered.ensures)

pub returns-in-Err : goal.returns-in-Err
returns-in-Err c =
    let a = c.args in
    rw c.refused-in-Err.ensures
    (offers-gives a.layout a.mark a.part c.in-Err.ensures refl c.refused.ensures)
