-- `read::insert` meets its contract. Assumes nothing.
use Rattle.std.proofs.Common.{le-leb}
use borrow.Author.Tests.{lt-leb}
use Rattle.frames.specs.Requests.{read_insert}
use Rattle.frames.proofs.Fields.{is_listed, not-listed, insert-read}
use Rattle.frames.proofs.read.insert.Goals as goal

pub returns-then-turn-gt2 : goal.returns-then-turn-gt2
unfolding read_insert
returns-then-turn-gt2 c = simp (lt-leb _ _ c.if-turn-gt2.true)

pub returns-in_default : goal.returns-in_default
unfolding read_insert
returns-in_default c = simp (le-leb _ _ c.if-turn-gt2.false, not-listed _ _ _ c.in_default.ensures)

pub returns-in_default-try_from : goal.returns-in_default-try_from
unfolding read_insert
returns-in_default-try_from c =
    let r = is_listed _ _ _ c.in-Ok.ensures in
    simp (le-leb _ _ c.if-turn-gt2.false, r.0, not-listed _ _ _ c.in_default-try_from.ensures)

pub returns : goal.returns
returns c =
    insert-read _ _ _ _ _ c.if-turn-gt2.false c.in-Ok.ensures c.in-Ok-try_from.ensures c.mark_at.ensures c.part_at.ensures
