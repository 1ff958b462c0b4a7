-- `write::put_bytes` meets its contract. The loop has written the first bytes. Assumes nothing.
use Rattle.std.proofs.Common.{refl, arith}
use Rattle.frames.proofs.Writing.{none_yet, turn, next-room, whole, each-itself, itself}
use Rattle.frames.proofs.write.put_bytes.Goals as goal

pub loop-byte-init : goal.loop-byte-init
loop-byte-init c = none_yet itself c.args.bytes.now (omega arith)

pub put-next-requires : goal.put-next-requires
put-next-requires c =
    next-room itself c.args.bytes.now _ c.loop-byte.invariant 1 (λ x. refl) c.loop-byte-test.true (omega (arith, c.requires))

pub loop-byte-preserved : goal.loop-byte-preserved
loop-byte-preserved c =
    turn itself c.args.bytes.now _ c.loop-byte.invariant 0 c.loop-byte-test.true c.put-next.ensures

pub returns : goal.returns
returns c = rw each-itself at (whole itself c.args.bytes.now _ c.loop-byte.invariant c.loop-byte-test.false)
