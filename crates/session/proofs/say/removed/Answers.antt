-- `removed` meets its contract. Assumes nothing.
use native.Mathlib.Omega.{arith}
use borrow.Author.Rules.{rules}
use mathlib.Core.Path.{refl}
use lib.ListN.{take}
use Rattle.frames.specs.Answers.{content_of, removed}
use Rattle.frames.specs.Bytes.{two}
use Rattle.frames.specs.Writing.{AnswerPut}
use Rattle.session.proofs.Spoken.{said, each-most}
use Rattle.session.proofs.say.removed.Goals as goal

pub returns : goal.returns
unfolding content_of
returns c =
    let e = c.said.ensures in
    let met = e.met in
    let put : AnswerPut e.shown.now (removed c.args.free (take c.args.many c.args.numbers.now)) e.left.now c.said.result.count = search rules in
    said _ (omega (arith, c.requires, each-most two 2 (λ x. refl) c.args.numbers.now c.args.many)) (rw (e.shows, e.leaves) at put)
