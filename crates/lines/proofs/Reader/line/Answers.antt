-- `lines::Reader::line` meets its contract: the part from the position to the next newline. Assumes nothing.
use Prim.Native.Nat.{◌≤◌}
use native.Mathlib.Omega.{arith}
use lib.ListN.{length}
use Rattle.lines.proofs.Ahead.{newline-le, at-newline, chars-none, chars-part}
use Rattle.lines.proofs.Reader.line.Goals as goal

pub slice_bounds-result-count-2 : goal.slice_bounds-result-count-2
slice_bounds-result-count-2 c =
    let a = c.args in
    omega (arith, c.newline-end.ensures, at-newline a.self.text.now a.self.at)

pub slice_bounds-result-start-2 : goal.slice_bounds-result-start-2
slice_bounds-result-start-2 c =
    let a = c.args in
    omega (arith, c.newline-end.ensures, at-newline a.self.text.now a.self.at)

pub slice_bounds-result-end-2 : goal.slice_bounds-result-end-2
slice_bounds-result-end-2 c =
    let a = c.args in
    let h : a.self.at ≤ length a.self.text.now = omega arith in
    omega (arith, c.newline-end.ensures, newline-le a.self.text.now a.self.at h)

pub returns : goal.returns
returns c =
    let a = c.args in
    rw c.newline-end.ensures (chars-part a.self.text.now a.self.at)

pub returns-then-text-at : goal.returns-then-text-at
returns-then-text-at c =
    chars-none _ _ c.if-text-at.true
