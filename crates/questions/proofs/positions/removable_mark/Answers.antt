-- `removable_mark` meets its contract: a sound layout's list names places. Assumes nothing.
use Rattle.layout.proofs.Typed.{typed-sized}
use Rattle.questions.specs.Answers.{removable_mark_of}
use Rattle.questions.proofs.Entries.{removable-low}
use Rattle.questions.proofs.positions.removable_mark.Goals as goal

pub mark_at-requires : goal.mark_at-requires
mark_at-requires c = removable-low c.args.layout (typed-sized c.args.layout _ c.well_formed.0)

pub returns : goal.returns
unfolding removable_mark_of
returns c = c.mark_at.ensures
