-- `insertion_option::is_offered` meets its contract: an offer of the list is equal to the one sought where it is the same offer. Assumes nothing.
use mathlib.Core.Path.{◌∙◌, refl}
use Rattle.piece.specs.Offers.{offers_of}
use Rattle.piece.specs.Offered.{offered_b}
use Rattle.piece.proofs.Offered.{offers-few, held_whole}
use Rattle.piece.proofs.Same.{among-same}
use Rattle.piece.proofs.insertion_option.is_offered.Goals as goal

pub returns : goal.returns
unfolding offered_b
returns c =
    let a = c.args in
    let os = offers_of a.piece a.part a.settings in
    c.contains.ensures.value
    ∙ among-same a.rotation a.shape _
    ∙ rw (c.offers-offers.ensures, held_whole os (offers-few a.piece a.part a.settings)) refl
