-- `write::put_marks` meets its contract. The loop has written the first marks. Assumes nothing.
use Rattle.std.proofs.Common.{refl, arith}
use Rattle.frames.specs.Fields.{mark_bytes}
use Rattle.frames.proofs.Writing.{none_yet, turn, next-room, whole, same-room, and_then}
use Rattle.frames.proofs.write.put_marks.Goals as goal

pub loop-mark-init : goal.loop-mark-init
loop-mark-init c = none_yet mark_bytes c.args.marks.now (omega (arith, c.put-next.ensures.added))

pub put_mark-next-requires : goal.put_mark-next-requires
put_mark-next-requires c =
    next-room mark_bytes c.args.marks.now _ c.loop-mark.invariant 7 (λ x. refl) c.loop-mark-test.true (omega (arith, c.requires, c.put-next.ensures.moved, same-room c.put-next.ensures))

pub loop-mark-preserved : goal.loop-mark-preserved
loop-mark-preserved c =
    turn mark_bytes c.args.marks.now _ c.loop-mark.invariant _ c.loop-mark-test.true c.put_mark-next.ensures

pub returns : goal.returns
returns c = and_then c.put-next.ensures (whole mark_bytes c.args.marks.now _ c.loop-mark.invariant c.loop-mark-test.false)
