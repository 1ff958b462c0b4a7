-- `replies::eaten_area` meets its contract. Assumes nothing.
use mathlib.Core.Path.{sym, ap, ◌∙◌}
use Rattle.desk_frames.specs.declared.Question.TheVariants.{EatenArea}
use Rattle.desk_frames.specs.Answers.{area_found, found_in}
use Rattle.desk_frames.proofs.Told.{told, refusal-told}
use Rattle.desk_frames.proofs.replies.eaten_area.Goals as goal

pub returns-in-Ok : goal.returns-in-Ok
unfolding found_in
returns-in-Ok c =
    let a = c.args in
    told a.layout EatenArea (ap area_found (sym c.in-Ok.is ∙ c.eaten_area.ensures)) c.area.ensures

pub returns-in-Err : goal.returns-in-Err
unfolding found_in
returns-in-Err c =
    let a = c.args in
    refusal-told a.layout EatenArea (ap area_found (sym c.in-Err.is ∙ c.eaten_area.ensures)) c.refused.ensures
