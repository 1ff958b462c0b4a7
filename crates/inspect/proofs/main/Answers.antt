-- `main` is safe and ends. Assumes nothing.
use Rattle.pipes.proofs.Uses.{bytes_count}
use Rattle.inspect.proofs.main.Goals as goal

pub slice_bounds-chunk-end : goal.slice_bounds-chunk-end
slice_bounds-chunk-end c = (bytes_count _ c.in-Bytes.is c.read_some.ensures).0

pub slice_bounds-serve-end : goal.slice_bounds-serve-end
slice_bounds-serve-end c = (bytes_count _ c.in-Bytes.is c.read_some.ensures).1
