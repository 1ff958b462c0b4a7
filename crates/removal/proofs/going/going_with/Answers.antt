-- `going_with` meets its contract: what the two steps write is what goes. Assumes nothing.
use native.Mathlib.Omega.{arith}
use Rattle.removal.proofs.Gone.{going-length, end_fits, gone-places, gone-count, gone-placed}
use Rattle.removal.proofs.going.going_with.Goals as goal

pub order_out-k-requires : goal.order_out-k-requires
order_out-k-requires c =
    let a = c.args in
    (c.requires.4, omega (arith, going-length a.nodes.now a.x a.held, c.requires.3))

pub put_free_last-count-requires : goal.put_free_last-count-requires
put_free_last-count-requires c =
    let a = c.args in
    let o = c.order_out-k.ensures in
    (c.requires.1, c.requires.2, end_fits a.nodes.now a.x a.held o.written o.counted c.requires.3)

pub returns : goal.returns
returns c =
    let a = c.args in
    let o = c.order_out-k.ensures in
    let e = c.put_free_last-count.ensures in
    record {
      entries = gone-places a.nodes.now a.x a.held o.written o.counted c.requires.3 e.written e.counted;
      counted = gone-count a.nodes.now a.x a.held o.written o.counted c.requires.3 e.written e.counted;
      placed = gone-placed a.nodes.now a.x a.held o.written o.counted c.requires.3 e.written e.counted c.requires.0 c.requires.2;
    }
