-- `inserted` meets its contract. Assumes nothing.
use native.Mathlib.Omega.{arith}
use borrow.Author.Rules.{rules}
use mathlib.Core.Path.{refl}
use Rattle.frames.specs.Answers.{content_of}
use Rattle.frames.specs.Fields.{mark_bytes}
use Rattle.session.specs.Session.{marks_said}
use Rattle.frames.specs.Writing.{AnswerPut}
use Rattle.session.proofs.Spoken.{said, each-most}
use Rattle.session.proofs.say.inserted.Goals as goal

pub returns : goal.returns
unfolding content_of
returns c =
    let e = c.said.ensures in
    let met = e.met in
    let put : AnswerPut e.shown.now (marks_said c.args.marks) e.left.now c.said.result.count = search rules in
    said _ (omega (arith, c.requires, each-most mark_bytes 7 (λ x. refl) c.args.marks.frees c.args.marks.count)) (rw (e.shows, e.leaves) at put)
