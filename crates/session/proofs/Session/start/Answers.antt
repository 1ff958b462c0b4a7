-- `start` meets its contract. Assumes nothing.
use mathlib.Core.Path.{refl}
use Rattle.session.proofs.Session.start.Goals as goal

pub returns : goal.returns
returns c = rw c.zero-layout.ensures refl
