-- `table::places::append` meets its contract: the leaf is entered, tied to what was last, and made the last, by proofs/Appended.antt.
-- Assumes nothing.
use mathlib.Core.Path.{◌∙◌}
use Rattle.lists.specs.Lists.{limit}
use Rattle.table.proofs.Appended.{tied-first, tied-next, appended}
use Rattle.table.proofs.places.append.Goals as goal
use Rattle.table.proofs.places.append.Goals.{then-l-ge-NONE, else-l-ge-NONE}

pub returns : goal.returns
returns c =
    let a = c.args in
    let t = a.nodes.now in
    let new = c.leaf.ensures in
    appended limit t a.q a.a a.d new
    (elim c.if-l-ge-NONE.branch [
      | then-l-ge-NONE w ↦ w.nodes-is ∙ tied-first limit t a.q a.a a.d new w.if-l-ge-NONE.true
      | else-l-ge-NONE w ↦ w.nodes-is ∙ tied-next limit t a.q a.a a.d new w.if-l-ge-NONE.false
    ])
