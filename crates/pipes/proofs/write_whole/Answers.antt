-- `write_whole`: what a write took of the rest stands behind what was done before.
use Rattle.pipes.proofs.Written.{grown}
use Rattle.pipes.proofs.write_whole.Goals as goal

pub loop-try-preserved : goal.loop-try-preserved
loop-try-preserved g c =
    grown _ _ _ c.write-put.result c.loop-try.done _ c.args.buf.now c.loop-try.invariant c.unwrap_or-n.ensures c.write-put.ensures.bound c.write-put.ensures.bytes
