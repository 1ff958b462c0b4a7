-- `answer` meets its contract: where more is counted than fits, all that is there is the line. Assumes nothing.
use mathlib.Core.Path.{◌≡◌, ap, sym}
use native.Mathlib.Omega.{arith}
use lib.ListN.{length}
use lib.Seq.{take_all, length-take-le}
use Rattle.frames.specs.Requests.{request_of}
use Rattle.session.proofs.Given.{pending-sized}
use Rattle.session.proofs.Ways.{asks}
use Rattle.session.proofs.listener.answer.Goals as goal
use Rattle.session.proofs.listener.answer.Goals.{Start}

sixty-four : (c : Start) → length c.args.pending.bytes ≡ 64
sixty-four c = pending-sized c.args.pending _ c.well_formed.1.0

pub returns-then-pending-gt-MOST : goal.returns-then-pending-gt-MOST
returns-then-pending-gt-MOST c =
    let p = c.args.pending in
    asks (ap request_of (take_all p.count p.bytes (omega (arith, sixty-four (goal.at.returns-then-pending-gt-MOST c).Start)))) c.step.ensures

pub slice_bounds-step-end : goal.slice_bounds-step-end
slice_bounds-step-end c = omega (arith, sixty-four (goal.at.slice_bounds-step-end c).Start)

pub slice_bounds-step-end-2 : goal.slice_bounds-step-end-2
slice_bounds-step-end-2 c =
    sym (length-take-le c.args.pending.count c.args.pending.bytes (omega (arith, sixty-four (goal.at.slice_bounds-step-end-2 c).Start)))
