-- `nodes_of` meets its contract: the array is filled as far as the loop has come.
use mathlib.Core.Path.{◌≡◌, refl}
use Prim.Native.Nat.{◌<◌}
use native.Mathlib.Omega.{arith}
use lib.ListN.{length, replicate}
use Rattle.lists.specs.Lists.{limit}
use Rattle.lists.proofs.Fill.{fill_more, fill-column}
use Rattle.table.specs.Table.{zero_node}
use Rattle.kiosk.specs.Records.{no_record, node_of_record}
use Rattle.kiosk.proofs.records.nodes_of.Goals as goal

pub loop-i-init : goal.loop-i-init
loop-i-init c = c.empty_table-nodes.ensures

pub loop-i-preserved : goal.loop-i-preserved
loop-i-preserved c =
    let l = c.loop-i in
    let t = c.args.records in
    let len : length t ≡ limit = c.well_formed.0.1.0.1 in
    let h : l.i < limit = omega arith in
    (fill_more node_of_record t len no_record (replicate limit zero_node) l.nodes l.i _ l.invariant h c.node_of.ensures)

pub returns : goal.returns
returns c =
    let l = c.loop-i in
    let t = c.args.records in
    let len : length t ≡ limit = c.well_formed.0.1.0.1 in
    fill-column node_of_record t len (replicate limit zero_node) refl l.nodes l.i l.invariant (omega arith)
