-- `keep` meets its contract, accepted and refused. Assumes nothing.
use Rattle.session.proofs.Ways.{keep-gives}
use Rattle.session.proofs.replies.keep.Goals as goal

pub returns-then-sound : goal.returns-then-sound
returns-then-sound c =
    keep-gives c.args.layout c.sound.ensures c.if-sound.true c.done.ensures

pub returns-else-sound : goal.returns-else-sound
returns-else-sound c =
    keep-gives c.args.layout c.sound.ensures c.if-sound.false c.refused.ensures
