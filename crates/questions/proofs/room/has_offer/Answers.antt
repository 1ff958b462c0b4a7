-- `has_offer` meets its contract: the count of the list is the number of the offers.
use mathlib.Core.Path.{ap}
use lib.Dec.{ltb}
use Rattle.piece.specs.declared.insertion_option.OfferList.{OfferList}
use Rattle.piece.specs.Offers.{as_offer_list}
use Rattle.questions.proofs.room.has_offer.Goals as goal

pub returns : goal.returns
unfolding as_offer_list
returns c = ap (λ (o : OfferList). ltb 0 o.count) c.offers.ensures
