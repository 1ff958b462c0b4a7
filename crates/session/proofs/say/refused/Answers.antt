-- `refused` meets its contract. Assumes nothing.
use native.Mathlib.Omega.{arith}
use borrow.Author.Rules.{rules}
use Rattle.frames.specs.Answers.{content_of, refused}
use Rattle.frames.specs.Writing.{AnswerPut}
use Rattle.session.proofs.Spoken.{said}
use Rattle.session.proofs.say.refused.Goals as goal

pub returns : goal.returns
unfolding content_of
returns c =
    let e = c.said.ensures in
    let met = e.met in
    let put : AnswerPut e.shown.now (refused c.args.op c.args.refusal) e.left.now c.said.result.count = search rules in
    said _ (omega arith) (rw (e.shows, e.leaves) at put)
