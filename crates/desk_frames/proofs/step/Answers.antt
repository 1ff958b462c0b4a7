-- `step` meets its contract: it asks what the line says. Assumes nothing.
use mathlib.Core.Path.{sym}
use Rattle.desk_frames.proofs.Stepping.{desk-asks}
use Rattle.desk_frames.proofs.step.Goals as goal

pub returns : goal.returns
returns c = desk-asks (sym c.request.ensures) c.asked.ensures
