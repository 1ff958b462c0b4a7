-- Each entry passed comes before the next; the last one has none.
use mathlib.Core.Path.{◌≡◌, sym}
use Prim.Native.Nat.{◌+◌, ◌-◌}
use native.Mathlib.Omega.{arith}
use Rattle.sound.specs.Listed.{sorted_b}
use Rattle.lists.proofs.Scan.{every-none, every_more, every-fails}
use Rattle.sound.proofs.Lists.{ordered_at, ordered-here, ordered-bad, ordered_end}
use Rattle.sound.proofs.listed.is_sorted.Goals as goal

pub loop-k-init : goal.loop-k-init
loop-k-init c =
    record { within = omega arith; ordered = every-none (ordered_at c.args.area.now c.args.serial.now c.args.list.now c.args.count) }

pub returns-then-not-is_before : goal.returns-then-not-is_before
unfolding sorted_b
returns-then-not-is_before c =
    let k = c.loop-k.k in
    let a = c.args in
    let here = ordered-bad a.area.now a.serial.now a.list.now a.count (k - 1) k (omega arith) c.loop-k-test.true c.is_before.ensures
    c.if-not-is_before.true in
    sym (every-fails (ordered_at a.area.now a.serial.now a.list.now a.count) a.count (k - 1) (omega arith) here)

pub loop-k-preserved : goal.loop-k-preserved
loop-k-preserved c =
    let k = c.loop-k.k in
    let a = c.args in
    let here = ordered-here a.area.now a.serial.now a.list.now a.count (k - 1) k (omega arith) c.is_before.ensures
    c.if-not-is_before.false in
    let next : k + 1 - 1 ≡ k - 1 + 1 = omega arith in
    record {
      within = omega arith;
      ordered = rw next (every_more (ordered_at a.area.now a.serial.now a.list.now a.count) (k - 1) c.loop-k.invariant.ordered here);
    }

pub returns : goal.returns
returns c =
    let a = c.args in
    sym
    (ordered_end a.area.now a.serial.now a.list.now a.count (c.loop-k.k - 1) (omega arith) (omega arith) c.loop-k.invariant.ordered)
