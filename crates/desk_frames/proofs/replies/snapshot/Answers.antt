-- `replies::snapshot` meets its contract. Assumes nothing.
use Prim.Native.Nat.{◌*◌}
use native.Mathlib.Omega.{arith}
use mathlib.Core.Path.{ap}
use lib.ListN.{length}
use Rattle.layout.specs.Check.{limit}
use Rattle.layout.proofs.Typed.{typed-sized}
use Rattle.questions.specs.Written.{snapshot_bytes}
use Rattle.desk_frames.specs.declared.Question.TheVariants.{Snapshot}
use Rattle.desk_frames.specs.Answers.{snapshot_found, found_in}
use Rattle.desk_frames.proofs.Told.{told, refusal-told, sound-found, unsound-found, counted-bytes, lent-count, lent-refused, snapshot-count}
use Rattle.desk_frames.proofs.replies.snapshot.Goals as goal

pub entries-requires : goal.entries-requires
entries-requires c =
    let l = c.args.layout in
    let w = lent-count l (snapshot_bytes l) (14 * limit) _ c.snapshot.ensures.written c.snapshot.ensures.answer c.in-Ok.is in
    omega (arith, c.requires, w.1, ap length w.3, snapshot-count l (typed-sized l _ c.well_formed.0) w.0)

pub returns-in-Ok : goal.returns-in-Ok
unfolding found_in
returns-in-Ok c =
    let l = c.args.layout in
    let w = lent-count l (snapshot_bytes l) (14 * limit) _ c.snapshot.ensures.written c.snapshot.ensures.answer c.in-Ok.is in
    told l Snapshot (sound-found l w.0 (counted-bytes (omega (arith, w.1, snapshot-count l (typed-sized l _ c.well_formed.0) w.0)) w.3)) c.entries.ensures

pub returns-in-Err : goal.returns-in-Err
unfolding found_in
returns-in-Err c =
    let l = c.args.layout in
    let w = lent-refused l (snapshot_bytes l) (14 * limit) _ c.snapshot.ensures.written c.snapshot.ensures.answer
    (λ h. omega (arith, snapshot-count l (typed-sized l _ c.well_formed.0) h)) c.in-Err.is in
    refusal-told l Snapshot (unsound-found l (snapshot_found l) w.0 w.1) c.refused.ensures
