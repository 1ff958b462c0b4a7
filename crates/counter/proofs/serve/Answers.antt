-- `serve` meets its contract. The measure is what is left of the chunk; turns from here on are turns from the chunk's start. Assumes nothing.
use mathlib.Core.List.{[], ◌++◌}
use native.Mathlib.Omega.{arith}
use Rattle.session.specs.Listener.{stop, go}
use Rattle.session.proofs.Uses.{count_fits, turn-forward}
use Rattle.counter.proofs.serve.Goals as goal

pub loop-at-init : goal.loop-at-init
loop-at-init c xs e t = (xs, t)

pub say-requires : goal.say-requires
say-requires c = count_fits c.turn-turn.ensures.turned

pub loop-at-smaller : goal.loop-at-smaller
loop-at-smaller c =
    omega (arith, turn-forward c.turn-turn.ensures c.loop-at-test.true)

pub loop-at-preserved : goal.loop-at-preserved
loop-at-preserved c xs e u =
    let s = c.turn-turn.ensures in
    c.loop-at.invariant (s.turned.answers ++ xs) e (go c.loop-at-test.true s u)

pub returns : goal.returns
returns c = let l = c.loop-at in l.invariant [] l.d (stop c.loop-at-test.false)
