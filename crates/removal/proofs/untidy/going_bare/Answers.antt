-- `going_bare` meets its contract: what it writes is what goes. Assumes nothing.
use native.Mathlib.Omega.{arith}
use Rattle.removal.specs.Untidy.{bare_going}
use Rattle.removal.proofs.Gone.{bare-length, bare-gone}
use Rattle.removal.proofs.untidy.going_bare.Goals as goal

pub put_free_last-count-requires : goal.put_free_last-count-requires
unfolding bare_going
put_free_last-count-requires c =
    (c.requires.1, c.requires.2, omega (arith, (bare-length c.args.nodes.now c.args.x).1))

pub returns : goal.returns
unfolding bare_going
returns c =
    let e = c.put_free_last-count.ensures in
    let g = bare-gone c.args.nodes.now c.args.x c.requires.0 c.requires.2 c.requires.3 e.written (omega (arith, e.counted)) in
    record { entries = g.0; counted = g.1.0; placed = g.1.1 }
