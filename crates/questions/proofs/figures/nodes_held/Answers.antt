-- `nodes_held` meets its contract: a sound layout's `held` is the number of nodes of its tree.
use mathlib.Core.Path.{ap}
use Rattle.std.specs.Prelude.{Ok}
use Rattle.questions.specs.Answers.{nodes_held_of}
use Rattle.std.proofs.lemmas.Result.{err_from_is_err_and}
use Rattle.layout.proofs.Examined.{refuses, goes_on}
use Rattle.questions.proofs.SizedBy.{sound-by}
use Rattle.questions.proofs.figures.nodes_held.Goals as goal

pub returns : goal.returns
unfolding nodes_held_of
returns c =
    let sound = sound-by c.args.layout c.well_formed c.in_ok-examined.ensures in
    goes_on c.args.layout _ c.in_ok-examined.ensures (ap Ok sound.held)

pub returns-in_err-examined : goal.returns-in_err-examined
unfolding nodes_held_of
returns-in_err-examined c = refuses c.args.layout _ c.in_err-examined.ensures (err_from_is_err_and c.from_residual.result c.from_residual.ensures.1)
