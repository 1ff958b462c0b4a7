-- `columns::put_node` meets its contract: three bytes, and then what `put_two` and `put_four` write, are the node's bytes. Assumes nothing.
use Rattle.walks.proofs.OfColumns.{node-stored}
use Rattle.walks.proofs.columns.put_node.Goals as goal

pub returns : goal.returns
returns c =
    let a = c.args in
    node-stored a.out.now a.at a.level a.kind a.cut a.number a.width a.height a.eaten _ _ _
    c.put_two.ensures
    c.put_four.ensures
    c.put_four-2.ensures
