-- `read::frame_in` meets its contract: each exit is a clause of `is_frame`. Assumes nothing.
use Rattle.std.proofs.Common.{sym, ◌∙◌}
use Rattle.frames.specs.Inner.{Decodes}
use Rattle.frames.proofs.Requests.{too_long, odd, no_digit, wrong-sum, a-frame, reads_none, reads-one}
use Rattle.frames.proofs.read.frame_in.Goals as goal

pub returns-then-n-gt-LONGEST_LINE : goal.returns-then-n-gt-LONGEST_LINE
returns-then-n-gt-LONGEST_LINE c = reads_none (too_long _ c.if-n-gt-LONGEST_LINE.true)

pub returns-then-n-ne0 : goal.returns-then-n-ne0
returns-then-n-ne0 c = reads_none (odd _ c.if-n-gt-LONGEST_LINE.false c.if-n-ne0.true)

pub returns-in_err-decoded : goal.returns-in_err-decoded
returns-in_err-decoded c =
    let e : Decodes _ _ = c.in_err-decoded.ensures in
    rw c.from_residual.ensures (reads_none (no_digit _ c.if-n-gt-LONGEST_LINE.false c.if-n-ne0.false (sym e.good)))

pub returns-then-decoded-ne0 : goal.returns-then-decoded-ne0
returns-then-decoded-ne0 c =
    let e : Decodes _ _ = c.in_ok-decoded.ensures in
    reads_none
    (wrong-sum _ c.if-n-gt-LONGEST_LINE.false c.if-n-ne0.false (sym e.good)
    (λ h. c.if-decoded-ne0.true (e.sum ∙ h)))

pub returns : goal.returns
returns c =
    let e : Decodes _ _ = c.in_ok-decoded.ensures in
    reads-one
    (a-frame _ c.if-n-gt-LONGEST_LINE.false c.if-n-ne0.false (sym e.good) (sym e.sum ∙ c.if-decoded-ne0.false))
    e.bytes
