-- `replay_piece::replay` counts each record once, so both counts stay within its bound on the reads.
use Prim.Native.Nat.{◌≤◌}
use Rattle.replay_piece.proofs.replay.Given as goal

abbrev pub invariant-loop-read : goal.invariant-loop-read
invariant-loop-read l = (l.bytes ≤ 74) × (l.tally.same ≤ l._read) × (l.tally.differ ≤ l._read)
