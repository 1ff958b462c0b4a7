-- `tidy` meets its contract: the layout's record is written where the tidying is accepted, and nowhere else. Assumes nothing.
use Rattle.kiosk.proofs.AtDesk.{tidy-done, tidy-refused}
use Rattle.kiosk.proofs.desk.tidy.Goals as goal

pub returns-in-Ok : goal.returns-in-Ok
returns-in-Ok c =
    tidy-done c.tidy-after.result c.layout_of-layout.ensures c.tidy-after.ensures c.tidied-count.ensures c.in-Ok.is c.layout_record-given.ensures

pub returns-in-Err : goal.returns-in-Err
returns-in-Err c =
    tidy-refused c.tidy-after.result c.layout_of-layout.ensures c.tidy-after.ensures c.tidied-count.ensures c.in-Err.is
