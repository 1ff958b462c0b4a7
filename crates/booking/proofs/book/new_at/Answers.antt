-- `new_at` meets its contract: the blueprint is that of the node. Assumes nothing.
use mathlib.Core.Path.{◌∙◌}
use Rattle.booking.proofs.Made.{blueprint-few, blueprint-listed}
use Rattle.booking.proofs.book.new_at.Goals as goal

pub new_nodes-requires : goal.new_nodes-requires
new_nodes-requires c =
    let d = c.args.old.datum in
    (rw c.nodes-blueprint.ensures (blueprint-few c.args.shape c.args.site.blade d.cut d.size c.args.size), c.requires)

pub returns : goal.returns
returns c =
    let a = c.args in
    let d = a.old.datum in
    c.new_nodes.ensures ∙ simp (c.nodes-blueprint.ensures, blueprint-listed a.shape a.site.blade d.cut d.size a.size)
