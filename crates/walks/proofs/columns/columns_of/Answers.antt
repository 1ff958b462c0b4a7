-- `columns::columns_of` meets its contract: each column is filled as far as the loop has come. Assumes nothing.
use mathlib.Core.Path.{◌≡◌, refl}
use Prim.Native.Nat.{◌≤◌, ◌<◌}
use native.Mathlib.Omega.{arith}
use lib.ListN.{length}
use Rattle.lists.specs.Lists.{limit, zeros}
use Rattle.lists.proofs.Fill.{fill_more, fill-column}
use Rattle.table.specs.Table.{zero_node}
use Rattle.table.specs.Columns.{area_of, first_of, next_of, kind_no_of}
use Rattle.walks.specs.Columns.{level_of, cut_no_of, number_of, width_of, height_of, eaten_of}
use Rattle.walks.proofs.columns.columns_of.Goals as goal

pub loop-i-init : goal.loop-i-init
loop-i-init c = (refl, refl, refl, refl, refl, refl, refl, refl, refl, refl)

pub loop-i-preserved : goal.loop-i-preserved
loop-i-preserved c =
    let l = c.loop-i in
    let t = c.args.nodes in
    let len : length t ≡ limit = c.well_formed.0.1.0.1 in
    let h : l.i < limit = omega arith in (
      fill_more first_of t len zero_node (zeros limit) l.first l.i _ l.invariant.0 h refl,
      fill_more next_of t len zero_node (zeros limit) l.next l.i _ l.invariant.1 h refl,
      fill_more level_of t len zero_node (zeros limit) l.level l.i _ l.invariant.2 h refl,
      fill_more kind_no_of t len zero_node (zeros limit) l.kind l.i _ l.invariant.3 h c.number.ensures,
      fill_more cut_no_of t len zero_node (zeros limit) l.cut l.i _ l.invariant.4 h c.number-in-loop-i.ensures,
      fill_more number_of t len zero_node (zeros limit) l.number l.i _ l.invariant.5 h refl,
      fill_more width_of t len zero_node (zeros limit) l.width l.i _ l.invariant.6 h refl,
      fill_more height_of t len zero_node (zeros limit) l.height l.i _ l.invariant.7 h refl,
      fill_more area_of t len zero_node (zeros limit) l.area l.i _ l.invariant.8 h c.area.ensures,
      fill_more eaten_of t len zero_node (zeros limit) l.eaten l.i _ l.invariant.9 h refl,
    )

pub returns : goal.returns
returns c =
    let l = c.loop-i in
    let t = c.args.nodes in
    let len : length t ≡ limit = c.well_formed.0.1.0.1 in
    let h : limit ≤ l.i = omega arith in
    rw (
      fill-column first_of t len (zeros limit) refl l.first l.i l.invariant.0 h,
      fill-column next_of t len (zeros limit) refl l.next l.i l.invariant.1 h,
      fill-column level_of t len (zeros limit) refl l.level l.i l.invariant.2 h,
      fill-column kind_no_of t len (zeros limit) refl l.kind l.i l.invariant.3 h,
      fill-column cut_no_of t len (zeros limit) refl l.cut l.i l.invariant.4 h,
      fill-column number_of t len (zeros limit) refl l.number l.i l.invariant.5 h,
      fill-column width_of t len (zeros limit) refl l.width l.i l.invariant.6 h,
      fill-column height_of t len (zeros limit) refl l.height l.i l.invariant.7 h,
      fill-column area_of t len (zeros limit) refl l.area l.i l.invariant.8 h,
      fill-column eaten_of t len (zeros limit) refl l.eaten l.i l.invariant.9 h,
    ) refl
