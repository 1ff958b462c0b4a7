-- `table::places::unlink` meets its contract: what was before x and what comes after it are joined, and then x is zero. Assumes nothing.
use Rattle.lists.specs.Lists.{limit}
use Rattle.table.specs.Table.{at}
use Rattle.table.proofs.Unlinked.{first-joined, next-joined, last-joined, prev-joined, unlinked}
use Rattle.table.proofs.places.unlink.Goals as goal
use Rattle.table.proofs.places.unlink.Goals.{then-n-ge-NONE, else-n-ge-NONE, then-n-ge-NONE-2, else-n-ge-NONE-2}

pub returns : goal.returns
returns c =
    let s = c.args in
    let n = at s.nodes.now s.x in
    let t = c.if-n-ge-NONE.nodes in
    unlinked limit s.nodes.now s.x
    (elim c.if-n-ge-NONE.branch [
      | then-n-ge-NONE w ↦ first-joined limit s.nodes.now n w.if-n-ge-NONE.true w.nodes-is
      | else-n-ge-NONE w ↦ next-joined limit s.nodes.now n w.if-n-ge-NONE.false w.nodes-is
    ])
    (elim c.if-n-ge-NONE-2.branch [
      | then-n-ge-NONE-2 w ↦ last-joined limit t n w.if-n-ge-NONE-2.true w.nodes-is
      | else-n-ge-NONE-2 w ↦ prev-joined limit t n w.if-n-ge-NONE-2.false w.nodes-is
    ])
    c.no_node.ensures
