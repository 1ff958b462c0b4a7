-- `why_not` meets its contract: what the head gives is refused, or the reasons of that piece are given.
use mathlib.Core.Path.{◌≡◌, sym, ap, ◌∙◌, refl}
use Rattle.std.specs.Prelude.{Result, Ok}
use Rattle.std.proofs.lemmas.Result.{err_from_is_err_and}
use Rattle.piece.specs.declared.parttype.PartType.{PartType}
use Rattle.layout.specs.declared.layout.Layout.{Layout}
use Rattle.marks.specs.declared.Refusal.{Refusal}
use Rattle.piece.specs.declared.node.Datum.{Datum}
use Rattle.questions.specs.declared.why_not.Reasons.{Reasons}
use Rattle.questions.specs.WhyNot.{why_for, why_call}
use Rattle.questions.proofs.why_not.why_not.Goals as goal

-- the piece or the refusal that the callee t gives is what the contract seeks
as-sought : {r : Result Reasons Refusal} {x y t : Result Datum Refusal} (l : Layout) (p : PartType) → t ≡ y → t ≡ x → r ≡ why_for l p x
    → r ≡ why_for l p y
as-sought l p f e h = h ∙ ap (why_for l p) (sym e ∙ f)

pub returns-in_err-piece : goal.returns-in_err-piece
unfolding why_call
returns-in_err-piece c =
    let p = err_from_is_err_and c.from_residual.result c.from_residual.ensures.1 in
    as-sought c.args.layout c.args.part c.in_err-piece.ensures refl (rw (p.1, p.2) refl)

pub returns : goal.returns
unfolding why_call
returns c = as-sought c.args.layout c.args.part c.in_ok-piece.ensures refl (ap Ok c.reasons_for.ensures)
