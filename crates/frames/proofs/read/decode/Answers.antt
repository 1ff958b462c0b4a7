-- `read::decode` meets its contract. The loop's invariant, `Read`: the first i bytes are stored, added up and all digits. Assumes nothing.
use Rattle.std.proofs.Common.{refl, sym, ◌∙◌}
use Rattle.hexadecimal.proofs.Pairs.{none_below, some_below}
use Rattle.frames.proofs.Decoding.{none_read, next-read, no-digits, not-decoded, decoded}
use Rattle.frames.proofs.read.decode.Goals as goal

pub loop-i-init : goal.loop-i-init
loop-i-init c = none_read c.args.line.now

pub returns-in_err-byte : goal.returns-in_err-byte
returns-in_err-byte c =
    let no = no-digits _ _ _ _ c.loop-i.invariant c.loop-i-test.true (none_below _ _ (sym c.in_err-byte.was ∙ c.byte.ensures)) in
    rw c.from_residual.ensures (not-decoded _ no)

pub loop-i-preserved : goal.loop-i-preserved
loop-i-preserved c =
    let e = some_below _ _ _ (sym c.in_ok-byte.was ∙ c.byte.ensures) in
    next-read _ _ _ _ c.loop-i.invariant c.loop-i-test.true _ e.0 _ (rw (← e.0) at e.1) refl

pub returns : goal.returns
returns c = decoded _ _ _ _ c.loop-i.invariant c.loop-i-test.false
