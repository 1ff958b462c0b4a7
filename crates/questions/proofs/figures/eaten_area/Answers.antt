-- `eaten_area` meets its contract: what the places add up to is the eaten area of the tree, which is small.
use mathlib.Core.Path.{ap, ◌∙◌}
use Rattle.std.specs.Prelude.{Ok}
use Rattle.layout.specs.SoundLayout.{SoundLayout}
use Rattle.questions.specs.Answers.{eaten_area_of}
use Rattle.std.proofs.lemmas.Result.{err_from_is_err_and}
use Rattle.layout.proofs.Examined.{refuses, goes_on}
use Rattle.questions.proofs.SizedBy.{sound-by}
use Rattle.questions.proofs.EatenSum.{strips-are, strips-small}
use Rattle.questions.proofs.figures.eaten_area.Goals as goal
use Rattle.questions.proofs.figures.eaten_area.Goals.{In_ok-examined}

pub returns-in_err-examined : goal.returns-in_err-examined
unfolding eaten_area_of
returns-in_err-examined c = refuses c.args.layout _ c.in_err-examined.ensures (err_from_is_err_and c.from_residual.result c.from_residual.ensures.1)

-- past refusal 1 the layout is sound
sound-here : (c : In_ok-examined) → SoundLayout c.args.layout
sound-here c =
    sound-by c.args.layout c.well_formed c.in_ok-examined.ensures

pub strips_of-requires : goal.strips_of-requires
strips_of-requires c = strips-small _ (sound-here (goal.at.strips_of-requires c).In_ok-examined)

pub returns : goal.returns
unfolding eaten_area_of
returns c =
    goes_on c.args.layout _ c.in_ok-examined.ensures (ap Ok (c.strips_of.ensures ∙ strips-are _ (sound-here (goal.at.returns c).In_ok-examined)))
