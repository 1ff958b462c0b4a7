-- `replies::why_not` meets its contract. Assumes nothing.
use mathlib.Core.Path.{ap, ◌∙◌}
use Rattle.desk_frames.specs.declared.Question.TheVariants.{WhyNot}
use Rattle.desk_frames.specs.Answers.{found_in, reasons_found}
use Rattle.desk_frames.proofs.Told.{told, refusal-told, reasons-found}
use Rattle.desk_frames.proofs.replies.why_not.Goals as goal

pub returns-in-Ok : goal.returns-in-Ok
unfolding found_in
returns-in-Ok c =
    let a = c.args in
    told a.layout (WhyNot a.mark a.part) (reasons-found _ c.into.ensures c.into-in-Ok.ensures ∙ ap reasons_found c.in-Ok.ensures) c.pair.ensures

pub returns-in-Err : goal.returns-in-Err
unfolding found_in
returns-in-Err c =
    let a = c.args in
    refusal-told a.layout (WhyNot a.mark a.part) (ap reasons_found c.in-Err.ensures) c.refused.ensures
