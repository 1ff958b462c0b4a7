-- `desk_stepped` meets its contract: by what the line asks. Assumes nothing.
use mathlib.Core.Path.{sym, ◌∙◌}
use Rattle.kiosk.proofs.AtDesk.{desk-asks}
use Rattle.kiosk.proofs.desk.desk_stepped.Goals as goal

pub returns-in-Asks : goal.returns-in-Asks
returns-in-Asks c =
    desk-asks (sym c.in-Asks.is ∙ c.request.ensures) c.told.ensures

pub returns-in-Tidy : goal.returns-in-Tidy
returns-in-Tidy c =
    desk-asks (sym c.in-Tidy.is ∙ c.request.ensures) c.tidy.ensures

pub returns-in-AtCounter : goal.returns-in-AtCounter
returns-in-AtCounter c =
    desk-asks (sym c.in-AtCounter.is ∙ c.request.ensures) c.at_counter.ensures
