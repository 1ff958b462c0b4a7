-- `write::offered` meets its contract. Assumes nothing.
use Rattle.std.proofs.Common.{◌≡◌, length, take, refl, arith, length-take-le}
use Rattle.frames.specs.Answers.{offer_bytes, content_of}
use Rattle.frames.proofs.Writing.{answered, and_then, length-each, end-room}
use Rattle.frames.proofs.write.offered.Goals as goal

pub end-requires : goal.end-requires
end-requires c =
    let x = c.args.offers in
    let four : length x.list ≡ 4 = c.well_formed.1.0.1.1.0.1.0.1 in
    end-room (and_then c.begin-pen.ensures c.put_offers-next.ensures)
    (omega (
      arith,
      c.requires,
      length-take-le x.count x.list (omega (arith, four, c.requires)),
      length-each offer_bytes 2 (λ o. refl) (take x.count x.list),
    ))

pub returns : goal.returns
unfolding content_of
returns c = answered refl (and_then c.begin-pen.ensures c.put_offers-next.ensures) c.end.ensures
