-- `replied` meets its contract: what is asked goes to its op's function. Assumes nothing.
use Rattle.session.proofs.Ways.{hears}
use Rattle.session.proofs.replies.replied.Goals as goal

pub returns-in-Open : goal.returns-in-Open
returns-in-Open c = hears c.in-Open.is c.«open».ensures

pub returns-in-Offers : goal.returns-in-Offers
returns-in-Offers c = hears c.in-Offers.is c.offers.ensures

pub returns-in-Insert : goal.returns-in-Insert
returns-in-Insert c = hears c.in-Insert.is c.insert.ensures

pub returns-in-Remove : goal.returns-in-Remove
returns-in-Remove c = hears c.in-Remove.is c.remove.ensures

pub returns-in-Report : goal.returns-in-Report
returns-in-Report c = hears c.in-Report.is c.report.ensures
