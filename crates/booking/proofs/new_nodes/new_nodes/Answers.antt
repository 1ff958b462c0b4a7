-- `new_nodes` meets its contract. The loop's invariant: the nodes made so far, with those still to come, are all. Assumes nothing.
use mathlib.Core.Path.{refl}
use lib.ListN.{take}
use Rattle.piece.specs.Insertion.{no_node}
use Rattle.booking.proofs.Runs.{next-entry, none_left}
use Rattle.booking.proofs.new_nodes.new_nodes.Goals as goal

pub loop-n-init : goal.loop-n-init
loop-n-init c = (rw c.none-new.ensures refl, rw c.none-new.ensures refl)

pub loop-n-preserved : goal.loop-n-preserved
loop-n-preserved c =
    let l = c.loop-n in
    let b = c.args.blueprint in (
      rw (c.add-new.ensures, l.invariant.0) refl,
      rw c.add-new.ensures (rw (next-entry (take b.count b.nodes) l.n-index no_node c.loop-n-test.true) at l.invariant.1),
    )

pub returns : goal.returns
returns c =
    let b = c.args.blueprint in
    rw (none_left (take b.count b.nodes) c.loop-n.n-index c.loop-n-test.false) at c.loop-n.invariant.1
