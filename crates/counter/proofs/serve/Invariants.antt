-- `serve` meets its contract. The measure is what is left of the chunk; turns from here on are turns from the chunk's start. Assumes nothing.
use mathlib.Core.List.{List}
use Prim.Native.Nat.{◌-◌}
use lib.ListN.{length}
use Rattle.frames.specs.Answers.{Answer}
use Rattle.session.specs.declared.listener.Listener.{Listener}
use Rattle.session.specs.Listener.{Turns}
use Rattle.counter.proofs.serve.Given as goal

abbrev pub invariant-loop-at : goal.invariant-loop-at
invariant-loop-at l =
    (xs : List Answer) (e : Listener) → Turns l.chunk l.d l.at xs e → (ys : List Answer) × Turns l.chunk l.initial.d 0 ys e

abbrev pub decreases-loop-at : goal.decreases-loop-at
decreases-loop-at l = length l.chunk - l.at
