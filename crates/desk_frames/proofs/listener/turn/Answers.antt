-- `turn` meets its contract: a line, one that is too long, or none yet. Assumes nothing.
use Rattle.desk_frames.proofs.Listening.{takes_whole, takes-long, takes-more}
use Rattle.desk_frames.proofs.listener.turn.Goals as goal

pub returns-in-Whole : goal.returns-in-Whole
returns-in-Whole c =
    let a = c.args in
    rw c.answered.ensures
    (takes_whole a.listener a.chunk.now a.at c.take-taken.ensures c.in-Whole.is c.answer.ensures)

pub returns-in-Long : goal.returns-in-Long
returns-in-Long c =
    let a = c.args in
    rw c.answered-in-Long.ensures
    (takes-long a.listener a.chunk.now a.at c.take-taken.ensures c.in-Long.is c.malformed.ensures)

pub returns-in-More : goal.returns-in-More
returns-in-More c =
    let a = c.args in
    rw c.unanswered.ensures (takes-more a.listener a.chunk.now a.at c.take-taken.ensures c.in-More.is)
