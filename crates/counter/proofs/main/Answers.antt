-- `main` is safe and ends. Assumes nothing.
use Rattle.pipes.proofs.Uses.{bytes_count}
use Rattle.session.proofs.Uses.{count_fits}
use Rattle.counter.proofs.main.Goals as goal

pub slice_bounds-chunk-end : goal.slice_bounds-chunk-end
slice_bounds-chunk-end c = (bytes_count _ c.in-Bytes.is c.read_some.ensures).0

pub slice_bounds-serve-end : goal.slice_bounds-serve-end
slice_bounds-serve-end c = (bytes_count _ c.in-Bytes.is c.read_some.ensures).1

pub say-requires : goal.say-requires
say-requires c = count_fits c.end-last.ensures.turned
