-- `replies::part_numbers` meets its contract. Assumes nothing.
use native.Mathlib.Omega.{arith}
use mathlib.Core.Path.{ap}
use Rattle.layout.specs.Check.{limit}
use Rattle.layout.proofs.Typed.{typed-sized}
use Rattle.questions.specs.Written.{held_numbers}
use Rattle.frames.specs.Bytes.{two}
use Rattle.frames.specs.Answers.{each}
use Rattle.desk_frames.specs.declared.Question.TheVariants.{PartNumbers}
use Rattle.desk_frames.specs.Answers.{numbers_bytes, found_in}
use Rattle.desk_frames.proofs.Told.{told, refusal-told, sound-found, unsound-found, counted-bytes, lent-count, lent-refused, numbers_fit}
use Rattle.desk_frames.proofs.replies.part_numbers.Goals as goal

pub numbers-requires : goal.numbers-requires
numbers-requires c =
    let l = c.args.layout in
    let w = lent-count l (held_numbers l) limit _ c.part_numbers.ensures.written c.part_numbers.ensures.answer c.in-Ok.is in
    (w.2, omega (arith, c.requires, w.1, numbers_fit l (typed-sized l _ c.well_formed.0) w.0))

pub returns-in-Ok : goal.returns-in-Ok
unfolding found_in
returns-in-Ok c =
    let l = c.args.layout in
    let w = lent-count l (held_numbers l) limit _ c.part_numbers.ensures.written c.part_numbers.ensures.answer c.in-Ok.is in
    told l PartNumbers (sound-found l w.0 (counted-bytes w.1 (ap (each two) w.3))) c.numbers.ensures

pub returns-in-Err : goal.returns-in-Err
unfolding found_in
returns-in-Err c =
    let l = c.args.layout in
    let w = lent-refused l (held_numbers l) limit _ c.part_numbers.ensures.written c.part_numbers.ensures.answer
    (λ h. omega (arith, numbers_fit l (typed-sized l _ c.well_formed.0) h)) c.in-Err.is in
    refusal-told l PartNumbers (unsound-found l (numbers_bytes (held_numbers l)) w.0 w.1) c.refused.ensures
