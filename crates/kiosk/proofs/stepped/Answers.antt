-- `stepped` meets its contract. Assumes nothing.
use Rattle.kiosk.proofs.Stepping.{asks}
use Rattle.kiosk.proofs.stepped.Goals as goal

pub returns : goal.returns
returns c = asks c.request.ensures c.asked.ensures
