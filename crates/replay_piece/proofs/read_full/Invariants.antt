-- The measure of `read_full` is the room that is left in the line.
use Rattle.std.proofs.Common.{length, ◌-◌, ◌≤◌}
use Rattle.replay_piece.proofs.read_full.Given as goal

abbrev pub invariant-loop-done : goal.invariant-loop-done
invariant-loop-done l = l.done ≤ length l.line

abbrev pub decreases-loop-done : goal.decreases-loop-done
decreases-loop-done l = length l.initial.line - l.done
