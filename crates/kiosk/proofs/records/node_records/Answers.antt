-- `node_records` meets its contract: the array is filled as far as the loop has come.
use mathlib.Core.Path.{◌≡◌, refl}
use Prim.Native.Nat.{◌<◌}
use native.Mathlib.Omega.{arith}
use lib.ListN.{length, replicate}
use Rattle.lists.specs.Lists.{limit}
use Rattle.lists.proofs.Fill.{fill_more, fill-column}
use Rattle.table.specs.Table.{zero_node}
use Rattle.kiosk.specs.Records.{no_record, node_record}
use Rattle.kiosk.proofs.records.node_records.Goals as goal

pub loop-i-init : goal.loop-i-init
loop-i-init c = c.no_records-records.ensures

pub loop-i-preserved : goal.loop-i-preserved
loop-i-preserved c =
    let l = c.loop-i in
    let t = c.args.nodes in
    let len : length t ≡ limit = c.well_formed.0.1.0.1 in
    let h : l.i < limit = omega arith in
    (fill_more node_record t len zero_node (replicate limit no_record) l.records l.i _ l.invariant h c.node_record.ensures)

pub returns : goal.returns
returns c =
    let l = c.loop-i in
    let t = c.args.nodes in
    let len : length t ≡ limit = c.well_formed.0.1.0.1 in
    fill-column node_record t len (replicate limit no_record) refl l.records l.i l.invariant (omega arith)
