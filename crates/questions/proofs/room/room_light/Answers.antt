-- `room_light` meets its contract: each way out is one outcome of the tests of `light_of`.
use mathlib.Core.Path.{refl}
use Rattle.std.proofs.lemmas.Result.{err_from_is_err_and}
use Rattle.layout.proofs.Examined.{passed, refuses, goes_on}
use Rattle.layout.proofs.Ways.{onward-by, ended_by}
use Rattle.questions.specs.Light.{light_of}
use Rattle.questions.proofs.room.room_light.Goals as goal

pub returns-in_err-examined : goal.returns-in_err-examined
unfolding light_of
returns-in_err-examined c = refuses c.args.layout _ c.in_err-examined.ensures (err_from_is_err_and c.from_residual.result c.from_residual.ensures.1)

pub returns-then-not-part_ok : goal.returns-then-not-part_ok
unfolding light_of
returns-then-not-part_ok c =
    goes_on c.args.layout _ c.in_ok-examined.ensures (ended_by _ c.part_ok.ensures c.if-not-part_ok.true refl)

pub first_offering-requires : goal.first_offering-requires
first_offering-requires c =
    passed c.args.layout c.in_ok-examined.ensures

pub returns : goal.returns
unfolding light_of
returns c =
    goes_on c.args.layout _ c.in_ok-examined.ensures
    (onward-by _ c.part_ok.ensures c.if-not-part_ok.false c.first_offering.ensures)
