-- `asked` meets its contract: what is asked of the layout, keep, restore, or a malformed line. Assumes nothing.
use Rattle.session.proofs.Ways.{asks, replied-steps, keep-steps, restore-steps}
use Rattle.session.proofs.Session.asked.Goals as goal

pub returns-in-OfLayout : goal.returns-in-OfLayout
returns-in-OfLayout c =
    rw c.told.ensures (asks c.in-OfLayout.is (replied-steps c.replied.ensures))

pub returns-then-answer : goal.returns-then-answer
returns-then-answer c =
    rw c.says.ensures (asks c.in-Keep.is (keep-steps c.keep-answer.ensures c.if-answer.true))

pub returns-else-answer : goal.returns-else-answer
returns-else-answer c =
    rw c.says-else-answer.ensures (asks c.in-Keep.is (keep-steps c.keep-answer.ensures c.if-answer.false))

pub returns-in-Restore : goal.returns-in-Restore
returns-in-Restore c =
    rw c.told-in-Restore.ensures (asks c.in-Restore.is (restore-steps c.restore.ensures))

pub returns-in-Malformed : goal.returns-in-Malformed
returns-in-Malformed c = asks c.in-Malformed.is c.malformed.ensures
