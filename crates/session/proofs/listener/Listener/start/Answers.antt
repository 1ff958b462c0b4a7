-- `Listener::start` meets its contract. Assumes nothing.
use mathlib.Core.Path.{refl}
use Rattle.session.proofs.listener.Listener.start.Goals as goal

pub returns : goal.returns
returns c = rw (c.start.ensures, c.none.ensures) refl
