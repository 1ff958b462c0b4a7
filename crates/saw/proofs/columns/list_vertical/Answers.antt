-- `saw::columns::list_vertical` meets its contract: it asks and does what the routine told the way does. Assumes nothing.
use Rattle.saw.proofs.columns.list_vertical.Goals as goal

pub list_along-requires : goal.list_along-requires
list_along-requires c = c.requires

pub returns : goal.returns
returns c =
    let e = c.list_along.ensures in
    record { written = e.written; counted = e.counted; piled = e.piled }
