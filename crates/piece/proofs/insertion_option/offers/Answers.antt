-- `offers` meets its contract: the list of none, with the offers of one rotation after those of the other. Each adds at most two.
use borrow.Author.Rules.{rules}
use Rattle.piece.specs.Offers.{as_offer_list, offers_of}
use Rattle.piece.proofs.Offered.{offers-in-few, one-rotation, two-rotations}
use Rattle.piece.proofs.insertion_option.offers.Goals as goal

pub with_rotation-requires : goal.with_rotation-requires
unfolding as_offer_list
with_rotation-requires c =
    simp (c.with_rotation-first.ensures, c.none.ensures, one-rotation) (search (rules, offers-in-few))

pub returns : goal.returns
unfolding offers_of
returns c =
    simp (
      c.with_rotation.ensures,
      c.with_rotation-first.ensures,
      c.none.ensures,
      one-rotation,
      two-rotations,
    )
