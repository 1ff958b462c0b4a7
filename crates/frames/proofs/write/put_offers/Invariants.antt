-- `write::put_offers` meets its contract. The loop has written the first offers. Assumes nothing.
use Rattle.std.proofs.Common.{take}
use Rattle.frames.specs.Answers.{each, offer_bytes}
use Rattle.frames.specs.Writing.{Wrote}
use Rattle.frames.proofs.write.put_offers.Given as goal

abbrev pub invariant-loop-offer : goal.invariant-loop-offer
invariant-loop-offer l = Wrote l.initial.out l.initial.next (each offer_bytes (take l.offer-index l.offers)) l.out l.next
