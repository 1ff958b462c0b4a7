-- `serve` is safe and ends. The measure is what is left of the chunk. Assumes nothing.
use native.Mathlib.Omega.{arith}
use Rattle.session.proofs.Uses.{turn-forward}
use Rattle.inspect.proofs.serve.Goals as goal

pub loop-at-smaller : goal.loop-at-smaller
loop-at-smaller c =
    omega (arith, turn-forward c.turn-turn.ensures c.loop-at-test.true)
