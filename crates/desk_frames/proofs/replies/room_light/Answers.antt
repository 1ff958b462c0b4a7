-- `replies::room_light` meets its contract. Assumes nothing.
use mathlib.Core.Path.{sym, ap, ◌∙◌}
use mathlib.Core.List.{◌∷◌}
use Rattle.std.specs.Prelude.{Ok}
use Rattle.marks.specs.declared.Mark.{Mark}
use Rattle.frames.specs.Fields.{mark_bytes}
use Rattle.desk_frames.specs.declared.Question.TheVariants.{RoomLight}
use Rattle.desk_frames.specs.Answers.{found, light_found, found_in}
use Rattle.desk_frames.proofs.Told.{told, refusal-told}
use Rattle.desk_frames.proofs.replies.room_light.Goals as goal

pub returns-in-Ok-Some : goal.returns-in-Ok-Some
unfolding found_in
returns-in-Ok-Some c =
    let a = c.args in
    told a.layout (RoomLight a.part) (ap light_found (ap Ok (sym c.in-Ok-Some.field-0-is) ∙ c.in-Ok-Some.ensures)) c.light.ensures

pub returns-in-Ok-None : goal.returns-in-Ok-None
unfolding found_in
returns-in-Ok-None c =
    let a = c.args in
    told a.layout (RoomLight a.part)
    (ap (λ (m : Mark). found (0 ∷ mark_bytes m)) c.zero.ensures ∙ ap light_found (ap Ok (sym c.in-Ok-None.field-0-is) ∙ c.in-Ok-None.ensures))
    c.light-in-Ok-None.ensures

pub returns-in-Err : goal.returns-in-Err
unfolding found_in
returns-in-Err c =
    let a = c.args in
    refusal-told a.layout (RoomLight a.part) (ap light_found (sym c.in-Err.is ∙ c.room_light.ensures)) c.refused.ensures
