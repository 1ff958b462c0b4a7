-- `replies::tidied` meets its contract. Assumes nothing.
use Rattle.frames.specs.Answers.{content_of}
use Rattle.desk_frames.proofs.replies.tidied.Goals as goal

pub returns-in-Ok : goal.returns-in-Ok
returns-in-Ok c = rw c.in-Ok.is c.count.ensures

pub returns-in-Err : goal.returns-in-Err
unfolding content_of
returns-in-Err c = rw c.in-Err.is c.refused.ensures
