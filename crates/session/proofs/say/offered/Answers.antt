-- `offered` meets its contract. Assumes nothing.
use native.Mathlib.Omega.{arith}
use borrow.Author.Rules.{rules}
use mathlib.Core.Path.{refl}
use Rattle.frames.specs.Answers.{offer_bytes, content_of}
use Rattle.session.specs.Session.{offers_said}
use Rattle.frames.specs.Writing.{AnswerPut}
use Rattle.session.proofs.Spoken.{said, each-most}
use Rattle.session.proofs.say.offered.Goals as goal

pub returns : goal.returns
unfolding content_of
returns c =
    let e = c.said.ensures in
    let met = e.met in
    let put : AnswerPut e.shown.now (offers_said c.args.offers) e.left.now c.said.result.count = search rules in
    said _ (omega (arith, c.requires, each-most offer_bytes 2 (λ x. refl) c.args.offers.list c.args.offers.count)) (rw (e.shows, e.leaves) at put)
