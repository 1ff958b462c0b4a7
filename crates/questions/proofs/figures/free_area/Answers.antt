-- `free_area` meets its contract: what the nodes add up to is the area of the free pieces, which is small.
use mathlib.Core.Path.{ap, ◌∙◌}
use native.Mathlib.Omega.{arith}
use Rattle.std.specs.Prelude.{Ok}
use Rattle.layout.specs.SoundLayout.{SoundLayout}
use Rattle.questions.specs.Answers.{free_area_of}
use Rattle.std.proofs.lemmas.Result.{err_from_is_err_and}
use Rattle.layout.proofs.Examined.{refuses, goes_on}
use Rattle.questions.proofs.SizedBy.{sound-by}
use Rattle.questions.proofs.Figured.{free-small, free-area-is}
use Rattle.questions.proofs.figures.free_area.Goals as goal
use Rattle.questions.proofs.figures.free_area.Goals.{In_ok-examined}

pub returns-in_err-examined : goal.returns-in_err-examined
unfolding free_area_of
returns-in_err-examined c = refuses c.args.layout _ c.in_err-examined.ensures (err_from_is_err_and c.from_residual.result c.from_residual.ensures.1)

-- past refusal 1 the layout is sound
sound-here : (c : In_ok-examined) → SoundLayout c.args.layout
sound-here c =
    sound-by c.args.layout c.well_formed c.in_ok-examined.ensures

pub free_sum-requires : goal.free_sum-requires
free_sum-requires c =
    let l = c.args.layout in
    let s = sound-here (goal.at.free_sum-requires c).In_ok-examined in
    omega (arith, free-area-is l s, free-small l s)

pub returns : goal.returns
unfolding free_area_of
returns c =
    let e = free-area-is c.args.layout (sound-here (goal.at.returns c).In_ok-examined) in
    goes_on c.args.layout _ c.in_ok-examined.ensures (ap Ok (c.free_sum.ensures ∙ e))
