-- `sheet_usage` meets its contract: both areas are small, so that they are cast without loss.
use Prim.Native.Nat.{◌^◌, ◌≤◌}
use native.Mathlib.Omega.{arith}
use Rattle.std.specs.Prelude.{Ok}
use Rattle.tree.specs.Figures.{sheet_usage}
use Rattle.layout.specs.SoundLayout.{SoundLayout}
use Rattle.layout.proofs.Areas.{used-small}
use Rattle.questions.specs.Answers.{sheet_usage_of}
use Rattle.std.proofs.lemmas.Result.{err_from_is_err_and}
use Rattle.layout.proofs.Examined.{refuses, goes_on}
use Rattle.questions.proofs.SizedBy.{sound-by}
use Rattle.questions.proofs.Figured.{in-float}
use Rattle.questions.proofs.figures.sheet_usage.Goals as goal
use Rattle.questions.proofs.figures.sheet_usage.Goals.{After-area-whole, In_ok-examined}

pub returns-in_err-examined : goal.returns-in_err-examined
unfolding sheet_usage_of
returns-in_err-examined c = refuses c.args.layout _ c.in_err-examined.ensures (err_from_is_err_and c.from_residual.result c.from_residual.ensures.1)

-- past refusal 1 the layout is sound
sound-here : (c : In_ok-examined) → SoundLayout c.args.layout
sound-here c =
    sound-by c.args.layout c.well_formed c.in_ok-examined.ensures

-- neither area loses anything when it is cast
small-here : (c : After-area-whole) → (c.args.layout.used ≤ 2 ^ 53) × (c.area-whole.result ≤ 2 ^ 53)
small-here c =
    let small = used-small c.args.layout (sound-here c.before.before) in
    (omega arith, omega (arith, c.area-whole.ensures))

pub int_to_float-result : goal.int_to_float-result
int_to_float-result c = in-float _ (omega (arith, small-here (goal.at.int_to_float-result c).After-area-whole))

pub int_to_float-result-2 : goal.int_to_float-result-2
int_to_float-result-2 c = in-float _ (omega (arith, small-here (goal.at.int_to_float-result-2 c).After-area-whole))

pub returns : goal.returns
unfolding sheet_usage_of sheet_usage
returns c =
    let s = sound-here (goal.at.returns c).In_ok-examined in
    goes_on c.args.layout _ c.in_ok-examined.ensures (λ i. Ok (sheet_usage (s.used i) (c.area-whole.ensures i)))
