-- `serve` is safe and ends. The measure is what is left of the chunk. Assumes nothing.
use native.Mathlib.Omega.{arith}
use Rattle.lines.proofs.Uses.{take-forward}
use Rattle.desk.proofs.serve.Goals as goal

pub loop-at-smaller : goal.loop-at-smaller
loop-at-smaller c =
    omega (arith, c.in_ok-at.ensures, take-forward c.loop-at.listener.pending c.args.chunk.now c.loop-at.at c.loop-at-test.true)
