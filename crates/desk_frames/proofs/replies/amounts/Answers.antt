-- `replies::amounts` meets its contract. Assumes nothing.
use native.Mathlib.Omega.{arith}
use mathlib.Core.Path.{ap}
use lib.ListN.{length}
use Rattle.layout.specs.Check.{limit}
use Rattle.layout.proofs.Typed.{typed-sized}
use Rattle.saw.specs.Written.{amount_bytes}
use Rattle.saw.proofs.Layouts.{amounts-length}
use Rattle.desk_frames.specs.declared.Question.TheVariants.{Amounts}
use Rattle.desk_frames.specs.Answers.{amounts_found, found_in}
use Rattle.desk_frames.proofs.Told.{told, refusal-told, sound-found, unsound-found, counted-bytes, lent-count, lent-refused, amounts-fit}
use Rattle.desk_frames.proofs.replies.amounts.Goals as goal

pub entries-requires : goal.entries-requires
entries-requires c =
    let l = c.args.layout in
    let w = lent-count l (amount_bytes l) limit _ c.amounts.ensures.written c.amounts.ensures.answer c.in-Ok.is in
    omega (arith, c.requires, w.1, ap length w.3, amounts-fit l (typed-sized l _ c.well_formed.0) w.0)

pub returns-in-Ok : goal.returns-in-Ok
unfolding found_in
returns-in-Ok c =
    let l = c.args.layout in
    let w = lent-count l (amount_bytes l) limit _ c.amounts.ensures.written c.amounts.ensures.answer c.in-Ok.is in
    told l Amounts (sound-found l w.0 (counted-bytes (omega (arith, w.1, amounts-length l)) w.3)) c.entries.ensures

pub returns-in-Err : goal.returns-in-Err
unfolding found_in
returns-in-Err c =
    let l = c.args.layout in
    let w = lent-refused l (amount_bytes l) limit _ c.amounts.ensures.written c.amounts.ensures.answer
    (λ h. omega (arith, amounts-fit l (typed-sized l _ c.well_formed.0) h)) c.in-Err.is in
    refusal-told l Amounts (unsound-found l (amounts_found l) w.0 w.1) c.refused.ensures
