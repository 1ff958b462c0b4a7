-- `replies::cuts` meets its contract. Assumes nothing.
use Prim.Native.Nat.{◌*◌}
use native.Mathlib.Omega.{arith}
use mathlib.Core.Path.{ap}
use lib.ListN.{length}
use Rattle.layout.specs.Check.{limit}
use Rattle.layout.proofs.Typed.{typed-sized}
use Rattle.saw.specs.Written.{saw_bytes}
use Rattle.saw.proofs.Layouts.{list_length}
use Rattle.desk_frames.specs.declared.Question.TheVariants.{Cuts}
use Rattle.desk_frames.specs.Answers.{cuts_found, found_in}
use Rattle.desk_frames.proofs.Told.{told, refusal-told, sound-found, unsound-found, counted-bytes, lent-count, lent-refused, cuts_fit}
use Rattle.desk_frames.proofs.replies.cuts.Goals as goal

pub entries-requires : goal.entries-requires
entries-requires c =
    let l = c.args.layout in
    let w = lent-count l (saw_bytes l) (9 * limit) _ c.cuts.ensures.written c.cuts.ensures.answer c.in-Ok.is in
    omega (arith, c.requires, w.1, ap length w.3, cuts_fit l (typed-sized l _ c.well_formed.0) w.0)

pub returns-in-Ok : goal.returns-in-Ok
unfolding found_in
returns-in-Ok c =
    let l = c.args.layout in
    let w = lent-count l (saw_bytes l) (9 * limit) _ c.cuts.ensures.written c.cuts.ensures.answer c.in-Ok.is in
    told l Cuts (sound-found l w.0 (counted-bytes (omega (arith, w.1, list_length l)) w.3)) c.entries.ensures

pub returns-in-Err : goal.returns-in-Err
unfolding found_in
returns-in-Err c =
    let l = c.args.layout in
    let w = lent-refused l (saw_bytes l) (9 * limit) _ c.cuts.ensures.written c.cuts.ensures.answer
    (λ h. omega (arith, cuts_fit l (typed-sized l _ c.well_formed.0) h)) c.in-Err.is in
    refusal-told l Cuts (unsound-found l (cuts_found l) w.0 w.1) c.refused.ensures
