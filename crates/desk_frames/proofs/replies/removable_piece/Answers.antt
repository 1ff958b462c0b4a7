-- `replies::removable_piece` meets its contract. Assumes nothing.
use mathlib.Core.Path.{sym, ap, ◌∙◌}
use Rattle.desk_frames.specs.declared.Question.TheVariants.{RemovablePiece}
use Rattle.desk_frames.specs.Answers.{mark_found, found_in}
use Rattle.desk_frames.proofs.Told.{told, refusal-told}
use Rattle.desk_frames.proofs.replies.removable_piece.Goals as goal

pub returns-in-Ok : goal.returns-in-Ok
unfolding found_in
returns-in-Ok c =
    let a = c.args in
    told a.layout (RemovablePiece a.position) (ap mark_found (sym c.in-Ok.is ∙ c.removable_mark.ensures)) c.mark.ensures

pub returns-in-Err : goal.returns-in-Err
unfolding found_in
returns-in-Err c =
    let a = c.args in
    refusal-told a.layout (RemovablePiece a.position) (ap mark_found (sym c.in-Err.is ∙ c.removable_mark.ensures)) c.refused.ensures
