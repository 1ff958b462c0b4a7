-- `snapshot` meets its contract: refused, too short, or written down the tree from the top, each node before its children's subtrees.
use mathlib.Core.Path.{◌≡◌, ap, ◌∙◌}
use mathlib.Core.Bool.{true}
use native.Mathlib.Omega.{arith}
use lib.ListN.{length}
use lib.Seq.{sets}
use Rattle.std.specs.Prelude.{Err}
use Rattle.std.proofs.lemmas.Result.{err_from_is_err_and}
use Rattle.layout.specs.Check.{sound_b}
use Rattle.layout.specs.SoundLayout.{SoundLayout}
use Rattle.layout.proofs.Examined.{passed, stopped}
use Rattle.layout.proofs.Exactly.{sound-says}
use Rattle.layout.proofs.Typed.{typed-sized}
use Rattle.questions.specs.Written.{snapshot_bytes}
use Rattle.questions.proofs.Lent.{not_sound, too_short, done, held-room, bytes-length, written_is}
use Rattle.questions.proofs.written.snapshot.Goals as goal
use Rattle.questions.proofs.written.snapshot.Goals.{In_ok-examined}

-- past the first test
checked : (c : In_ok-examined) → sound_b c.args.layout ≡ true
checked c = passed c.args.layout c.in_ok-examined.ensures

stands : (c : In_ok-examined) → SoundLayout c.args.layout
stands c = sound-says c.args.layout (typed-sized c.args.layout _ c.well_formed.0) (checked c)

pub returns-in_err-examined : goal.returns-in_err-examined
returns-in_err-examined c =
    let a = c.args in let gives = not_sound a.layout (snapshot_bytes a.layout) a.out.now (stopped a.layout c.in_err-examined.ensures).0 in
    let p = err_from_is_err_and c.from_residual.result c.from_residual.ensures.1 in
    record { answer = p.1 ∙ ap Err (p.2 ∙ (stopped a.layout c.in_err-examined.ensures).1) ∙ gives.0; written = gives.1 }

pub returns-then-out-bytes : goal.returns-then-out-bytes
returns-then-out-bytes c =
    let a = c.args in let gives = too_short a.layout (snapshot_bytes a.layout) a.out.now (checked (goal.at.returns-then-out-bytes c).In_ok-examined)
    (omega (arith, bytes-length a.layout (stands (goal.at.returns-then-out-bytes c).In_ok-examined), c.if-out-bytes.true)) in record { answer = gives.0; written = gives.1 }

pub put_subtree-requires : goal.put_subtree-requires
put_subtree-requires c =
    let l = c.args.layout in
    (omega arith, omega (arith, ap length (written_is l (stands (goal.at.put_subtree-requires c).In_ok-examined)), bytes-length l (stands (goal.at.put_subtree-requires c).In_ok-examined), c.if-out-bytes.false))

pub overflow_cast-result : goal.overflow_cast-result
overflow_cast-result c =
    omega (arith, held-room c.args.layout (stands (goal.at.overflow_cast-result c).In_ok-examined))

pub returns : goal.returns
returns c =
    let a = c.args in
    let l = a.layout in
    let n = bytes-length l (stands (goal.at.returns c).In_ok-examined) in let gives = done l (snapshot_bytes l) a.out.now (checked (goal.at.returns c).In_ok-examined) (omega (arith, n, c.if-out-bytes.false)) (omega (arith, n))
    (c.put_subtree.ensures.written ∙ ap (sets a.out.now 0) (written_is l (stands (goal.at.returns c).In_ok-examined))) in record { answer = gives.0; written = gives.1 }
