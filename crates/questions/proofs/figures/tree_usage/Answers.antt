-- `tree_usage` meets its contract: the walk over the nodes from the top finds the usage of the tree.
use mathlib.Core.Path.{ap, ◌∙◌}
use native.Mathlib.Omega.{arith}
use Rattle.std.specs.Prelude.{Ok}
use Rattle.layout.specs.SoundLayout.{SoundLayout}
use Rattle.questions.specs.Answers.{tree_usage_of}
use Rattle.std.proofs.lemmas.Result.{err_from_is_err_and}
use Rattle.layout.proofs.Examined.{refuses, goes_on}
use Rattle.questions.proofs.SizedBy.{sound-by}
use Rattle.questions.proofs.Figured.{areas-small, usage-is}
use Rattle.questions.proofs.figures.tree_usage.Goals as goal
use Rattle.questions.proofs.figures.tree_usage.Goals.{In_ok-examined}

pub returns-in_err-examined : goal.returns-in_err-examined
unfolding tree_usage_of
returns-in_err-examined c = refuses c.args.layout _ c.in_err-examined.ensures (err_from_is_err_and c.from_residual.result c.from_residual.ensures.1)

-- past refusal 1 the layout is sound
sound-here : (c : In_ok-examined) → SoundLayout c.args.layout
sound-here c =
    sound-by c.args.layout c.well_formed c.in_ok-examined.ensures

pub usage_of-requires : goal.usage_of-requires
usage_of-requires c =
    (omega arith, areas-small c.args.layout (sound-here (goal.at.usage_of-requires c).In_ok-examined))

pub returns : goal.returns
unfolding tree_usage_of
returns c =
    let e = usage-is c.args.layout (sound-here (goal.at.returns c).In_ok-examined) in
    goes_on c.args.layout _ c.in_ok-examined.ensures (ap Ok (c.usage_of.ensures ∙ e))
