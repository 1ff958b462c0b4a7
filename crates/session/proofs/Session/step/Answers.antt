-- `step` meets its contract: it asks what the line says. Assumes nothing.
use mathlib.Core.Path.{sym}
use Rattle.session.proofs.Ways.{asks}
use Rattle.session.proofs.Session.step.Goals as goal

pub returns : goal.returns
returns c = asks (sym c.request.ensures) c.asked.ensures
