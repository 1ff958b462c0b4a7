-- `malformed` meets its contract. Assumes nothing.
use Rattle.session.proofs.Ways.{malformed-steps}
use Rattle.session.proofs.Session.malformed.Goals as goal

pub returns : goal.returns
returns c = rw c.says.ensures (malformed-steps c.malformed.ensures)
