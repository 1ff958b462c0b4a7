-- `tidied` meets its contract: the layout is tidied, and what is kept stays. Assumes nothing.
use mathlib.Core.Path.{refl}
use Rattle.desk_frames.proofs.Stepping.{tidy-steps}
use Rattle.desk_frames.proofs.tidied.Goals as goal

pub returns : goal.returns
returns c =
    tidy-steps c.tidy-answer.result refl c.tidy-answer.ensures c.tidied-count.ensures
