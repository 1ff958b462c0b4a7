-- `columns::areas_of` meets its contract: the column is filled as far as the loop has come. Assumes nothing.
use mathlib.Core.Path.{refl}
use native.Mathlib.Omega.{arith}
use Rattle.lists.specs.Lists.{limit, zeros}
use Rattle.lists.proofs.Fill.{fill_more, fill-column}
use Rattle.table.specs.Table.{zero_node}
use Rattle.table.specs.Columns.{area_of}
use Rattle.layout_nodes.proofs.columns.areas_of.Goals as goal

pub loop-i-init : goal.loop-i-init
loop-i-init c = refl

pub loop-i-preserved : goal.loop-i-preserved
loop-i-preserved c =
    let l = c.loop-i in
    let len = c.well_formed.0.1.0.1 in
    fill_more area_of c.args.nodes len zero_node (zeros limit) l.areas l.i _ l.invariant (omega arith) c.area.ensures

pub returns : goal.returns
returns c =
    let l = c.loop-i in
    fill-column area_of c.args.nodes c.well_formed.0.1.0.1 (zeros limit) refl l.areas l.i l.invariant (omega arith)
