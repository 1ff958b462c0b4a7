-- `marks_of` meets its contract. The loop's invariant is `Noted` of proofs/Marked.antt. Assumes nothing.
use mathlib.Core.Path.{sym, ◌∙◌}
use Prim.Native.Nat.{◌<◌}
use native.Mathlib.Omega.{arith}
use Rattle.booking.specs.NewNodes.{those}
use Rattle.booking.proofs.Runs.{none_left}
use Rattle.booking.proofs.Marked.{noted-none, noted-free, noted_other, noted-room, noted-all}
use Rattle.booking.proofs.new_marks.marks_of.Goals as goal
use Rattle.booking.proofs.new_marks.marks_of.Goals.{After-mark_of, else-is_free, then-is_free}

-- a free piece finds room
low : (c : After-mark_of) → c.loop-n.found < 2
low c =
    let l = c.loop-n in
    noted-room c.args.number (those c.args.new) l.n-index l.frees l.found l.invariant c.loop-n-test.true
    (sym c.is_free.ensures ∙ c.if-is_free.true) c.requires.1

pub loop-n-init : goal.loop-n-init
loop-n-init c = rw c.zero-zero.ensures (noted-none c.args.number (those c.args.new))

pub bounds-frees-found : goal.bounds-frees-found
bounds-frees-found c = low c

pub offset_bounds-frees-found : goal.offset_bounds-frees-found
offset_bounds-frees-found c = omega (arith, low c)

pub overflow_add-found : goal.overflow_add-found
overflow_add-found c = omega (arith, low c)

pub loop-n-preserved : goal.loop-n-preserved
loop-n-preserved c =
    let l = c.loop-n in
    elim c.if-is_free.branch [
      | then-is_free w ↦ noted-free c.args.number (those c.args.new) l.n-index l.frees l.found l.invariant c.loop-n-test.true
          (sym c.is_free.ensures ∙ w.if-is_free.true) w.mark_of.ensures w.frees-is w.found-is
      | else-is_free w ↦ noted_other c.args.number (those c.args.new) l.n-index l.frees l.found l.invariant c.loop-n-test.true
          (sym c.is_free.ensures ∙ w.if-is_free.false) w.frees-is w.found-is
    ]

pub returns : goal.returns
returns c =
    let l = c.loop-n in
    let ns = those c.args.new in
    noted-all c.args.number ns c.first_mark-first.result c.part_mark-part.result l.frees l.found
    (rw (none_left ns l.n-index c.loop-n-test.false) at l.invariant) c.requires.1
    c.first_mark-first.ensures c.part_mark-part.ensures
