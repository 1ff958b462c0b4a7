-- `asked` meets its contract: a question, tidying, or what the counter is asked. Assumes nothing.
use Rattle.desk_frames.proofs.Stepping.{desk-asks, question-steps, counter-steps, has_room}
use Rattle.desk_frames.proofs.asked.Goals as goal

pub copied-requires : goal.copied-requires
copied-requires c =
    has_room c.args.out.now c.asked.ensures c.requires

pub returns-in-Asks : goal.returns-in-Asks
returns-in-Asks c =
    question-steps c.in-Asks.is c.answer-count.ensures

pub returns-in-Tidy : goal.returns-in-Tidy
returns-in-Tidy c = desk-asks c.in-Tidy.is c.tidied.ensures

pub returns-in-AtCounter : goal.returns-in-AtCounter
returns-in-AtCounter c =
    counter-steps c.in-AtCounter.is c.asked.ensures c.copied.ensures.result c.copied.ensures.written
