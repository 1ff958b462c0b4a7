-- `write::put_twos` meets its contract. The loop has written the first numbers. Assumes nothing.
use Rattle.std.proofs.Common.{refl, arith}
use Rattle.frames.specs.Bytes.{two}
use Rattle.frames.proofs.Writing.{none_yet, turn, next-room, whole}
use Rattle.frames.proofs.write.put_twos.Goals as goal

pub loop-number-init : goal.loop-number-init
loop-number-init c = none_yet two c.args.numbers.now (omega arith)

pub put_two-next-requires : goal.put_two-next-requires
put_two-next-requires c =
    next-room two c.args.numbers.now _ c.loop-number.invariant 2 (λ x. refl) c.loop-number-test.true (omega (arith, c.requires))

pub loop-number-preserved : goal.loop-number-preserved
loop-number-preserved c =
    turn two c.args.numbers.now _ c.loop-number.invariant 0 c.loop-number-test.true c.put_two-next.ensures

pub returns : goal.returns
returns c = whole two c.args.numbers.now _ c.loop-number.invariant c.loop-number-test.false
