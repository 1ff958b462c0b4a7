-- `pipes::write_whole`: what the writer holds has grown by what is done.
use Rattle.std.proofs.Common.{take, ◌≤◌, length}
use Rattle.std.specs.Io.KnownBytes.{Appends}
use Rattle.pipes.proofs.write_whole.Given as goal

abbrev pub invariant-loop-try : goal.invariant-loop-try
invariant-loop-try g l = (l.done ≤ length l.buf) × Appends (g.W.Write.contents l.initial.out) (g.W.Write.contents l.out) (take l.done l.buf)
