-- `replies::figures` meets its contract. Assumes nothing.
use mathlib.Core.Path.{ap}
use Rattle.desk_frames.specs.declared.Question.TheVariants.{Figures}
use Rattle.desk_frames.specs.Answers.{figures_bytes, found_in, figures_of}
use Rattle.desk_frames.proofs.Told.{told, refusal-told, sound-found, unsound-found}
use Rattle.desk_frames.proofs.Figured.{list-is, list-not}
use Rattle.desk_frames.proofs.replies.figures.Goals as goal

pub returns-in-Ok : goal.returns-in-Ok
unfolding found_in
returns-in-Ok c =
    let l = c.args.layout in
    let list = list-is l c.figures_of.ensures c.in-Ok.is in
    told l Figures (sound-found l list.0 (ap figures_bytes list.1)) c.figures.ensures

pub returns-in-Err : goal.returns-in-Err
unfolding found_in
returns-in-Err c =
    let l = c.args.layout in
    let no = list-not l c.figures_of.ensures c.in-Err.is in
    refusal-told l Figures (unsound-found l (figures_bytes (figures_of l)) no.0 no.1) c.refused.ensures
