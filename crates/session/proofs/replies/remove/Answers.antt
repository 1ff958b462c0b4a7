-- `remove` meets its contract, accepted and refused. Assumes nothing.
use mathlib.Core.Path.{refl}
use Rattle.layout.specs.Check.{limit}
use Rattle.layout.proofs.Answered.{TakenOut, remove-says}
use Rattle.layout.proofs.Typed.{typed-sized}
use Rattle.session.proofs.Ways.{remove-gives, numbers-out}
use native.Mathlib.Omega.{arith}
use Rattle.session.proofs.replies.remove.Goals as goal
use Rattle.session.proofs.replies.remove.Goals.{After-numbers-in-Ok-1}

taken_out : (c : After-numbers-in-Ok-1)
    → TakenOut c.args.layout c.args.mark limit c.remove-answer.result
taken_out c =
    remove-says c.args.layout c.args.mark limit _ (typed-sized c.args.layout _ c.well_formed.0) c.remove-answer.ensures.says
    c.in-Ok.is

pub removed-requires : goal.removed-requires
removed-requires c =
    let t = taken_out c in
    (omega (arith, t.count, t.few), omega (arith, t.count, t.few))

pub returns-in-Ok : goal.returns-in-Ok
returns-in-Ok c =
    let a = c.args in
    let out = numbers-out a.layout a.mark _ (taken_out (goal.at.returns-in-Ok c).After-numbers-in-Ok-1) c.remove-answer.ensures.written in
    rw c.accepted.ensures
    (remove-gives a.layout a.mark _ c.remove-answer.ensures.says c.in-Ok.is refl (rw out at c.removed.ensures))

pub returns-in-Err : goal.returns-in-Err
returns-in-Err c =
    let a = c.args in
    rw c.refused-in-Err.ensures
    (remove-gives a.layout a.mark _ c.remove-answer.ensures.says c.in-Err.is refl c.refused.ensures)
