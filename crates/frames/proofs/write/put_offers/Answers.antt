-- `write::put_offers` meets its contract. The loop has written the first offers. Assumes nothing.
use Rattle.std.proofs.Common.{refl, arith}
use Rattle.frames.specs.Answers.{offer_bytes}
use Rattle.frames.proofs.Writing.{none_yet, turn, next-room, whole, same-room, and_then}
use Rattle.frames.proofs.write.put_offers.Goals as goal

pub loop-offer-init : goal.loop-offer-init
loop-offer-init c = none_yet offer_bytes c.args.offers.now (omega (arith, c.put-next.ensures.added))

pub put_offer-next-requires : goal.put_offer-next-requires
put_offer-next-requires c =
    next-room offer_bytes c.args.offers.now _ c.loop-offer.invariant 2 (λ x. refl) c.loop-offer-test.true (omega (arith, c.requires, c.put-next.ensures.moved, same-room c.put-next.ensures))

pub loop-offer-preserved : goal.loop-offer-preserved
loop-offer-preserved c =
    turn offer_bytes c.args.offers.now _ c.loop-offer.invariant _ c.loop-offer-test.true c.put_offer-next.ensures

pub returns : goal.returns
returns c = and_then c.put-next.ensures (whole offer_bytes c.args.offers.now _ c.loop-offer.invariant c.loop-offer-test.false)
