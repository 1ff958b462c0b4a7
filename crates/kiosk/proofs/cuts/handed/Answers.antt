-- `handed` meets its contract: the call is made on the layout that the record stands for. Assumes nothing.
use mathlib.Core.Path.{sym, ◌∙◌}
use Rattle.kiosk.proofs.Handing.{hands_out}
use Rattle.kiosk.proofs.cuts.handed.Goals as goal

pub returns-in-Ok : goal.returns-in-Ok
returns-in-Ok c =
    hands_out c.args.given _ c.well_formed.0 c.args.list _ c.well_formed.1.0.1.0.1 c.layout_of-layout.ensures
    (sym c.in-Ok.is ∙ c.cuts.ensures.answer) c.cuts.ensures.written

pub returns-in-Err : goal.returns-in-Err
returns-in-Err c =
    hands_out c.args.given _ c.well_formed.0 c.args.list _ c.well_formed.1.0.1.0.1 c.layout_of-layout.ensures
    (sym c.in-Err.is ∙ c.cuts.ensures.answer) c.cuts.ensures.written
