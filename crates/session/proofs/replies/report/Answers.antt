-- `report` meets its contract, answered and refused. Assumes nothing.
use mathlib.Core.Path.{refl}
use Rattle.layout.proofs.Typed.{typed-sized}
use Rattle.session.proofs.Reported.{usage-bits, reported-done, reported-refused}
use Rattle.session.proofs.replies.report.Goals as goal

pub float_to_bits-usage : goal.float_to_bits-usage
float_to_bits-usage c =
    usage-bits c.args.layout c.sheet_usage.ensures (typed-sized c.args.layout _ c.well_formed.0) c.in-Ok.is

pub returns-in-Ok : goal.returns-in-Ok
returns-in-Ok c =
    rw c.accepted.ensures
    (reported-done c.args.layout c.sheet_usage.ensures (typed-sized c.args.layout _ c.well_formed.0) c.in-Ok.is refl c.reported.ensures)

pub returns-in-Err : goal.returns-in-Err
returns-in-Err c =
    rw c.refused-in-Err.ensures
    (reported-refused c.args.layout c.sheet_usage.ensures c.in-Err.is refl c.refused.ensures)
