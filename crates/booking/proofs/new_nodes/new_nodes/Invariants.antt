-- `new_nodes` meets its contract. The loop's invariant: the nodes made so far, with those still to come, are all. Assumes nothing.
use mathlib.Core.Path.{◌≡◌}
use lib.ListN.{drop, take}
use Rattle.booking.specs.NewNodes.{add_all, none_new}
use Rattle.booking.proofs.new_nodes.new_nodes.Given as goal

abbrev pub invariant-loop-n : goal.invariant-loop-n
invariant-loop-n l =
    let ns = take l.fn.blueprint.count l.fn.blueprint.nodes in
    (l.new.count ≡ l.n-index) × (add_all l.site l.new (drop l.n-index ns) ≡ add_all l.site none_new ns)
