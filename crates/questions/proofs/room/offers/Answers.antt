-- `offers` meets its contract: what the head gives is refused, or the offers of that piece are given.
use mathlib.Core.Path.{◌≡◌, sym, ap, ◌∙◌, refl}
use Rattle.std.specs.Prelude.{Result, Ok}
use Rattle.std.proofs.lemmas.Result.{err_from_is_err_and}
use Rattle.piece.specs.declared.insertion_option.OfferList.{OfferList}
use Rattle.piece.specs.declared.parttype.PartType.{PartType}
use Rattle.layout.specs.declared.layout.Layout.{Layout}
use Rattle.marks.specs.declared.Refusal.{Refusal}
use Rattle.piece.specs.declared.node.Datum.{Datum}
use Rattle.questions.specs.Answers.{offered_for, offers_call}
use Rattle.questions.proofs.room.offers.Goals as goal

-- the piece or the refusal that the callee t gives is what the contract seeks
as-sought : {r : Result OfferList Refusal} {x y t : Result Datum Refusal} (l : Layout) (p : PartType) → t ≡ y → t ≡ x → r ≡ offered_for l p x
    → r ≡ offered_for l p y
as-sought l p f e h = h ∙ ap (offered_for l p) (sym e ∙ f)

pub returns-in_err-piece : goal.returns-in_err-piece
unfolding offers_call
returns-in_err-piece c =
    let p = err_from_is_err_and c.from_residual.result c.from_residual.ensures.1 in
    as-sought c.args.layout c.args.part c.in_err-piece.ensures refl (rw (p.1, p.2) refl)

pub returns : goal.returns
unfolding offers_call
returns c = as-sought c.args.layout c.args.part c.in_ok-piece.ensures refl (ap Ok c.offers.ensures)
