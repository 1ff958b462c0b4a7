-- `is_empty` meets its contract: the top of a sound layout is a structure.
use mathlib.Core.Path.{sym, ap}
use Rattle.std.specs.Prelude.{Ok}
use Rattle.questions.specs.Answers.{is_empty_of}
use Rattle.std.proofs.lemmas.Result.{err_from_is_err_and}
use Rattle.layout.proofs.Examined.{refuses, goes_on}
use Rattle.questions.proofs.SizedBy.{sound-by}
use Rattle.questions.proofs.Figured.{never-empty}
use Rattle.questions.proofs.figures.is_empty.Goals as goal

pub returns : goal.returns
unfolding is_empty_of
returns c =
    let sound = sound-by c.args.layout c.well_formed c.in_ok-examined.ensures in
    goes_on c.args.layout _ c.in_ok-examined.ensures (ap Ok (sym (never-empty c.args.layout sound)))

pub returns-in_err-examined : goal.returns-in_err-examined
unfolding is_empty_of
returns-in_err-examined c = refuses c.args.layout _ c.in_err-examined.ensures (err_from_is_err_and c.from_residual.result c.from_residual.ensures.1)
