-- `columns::berth` meets its contract: a search, of which `Scan` has the steps. Assumes nothing.
use mathlib.Core.Path.{◌∙◌}
use native.Mathlib.Omega.{arith}
use borrow.Author.Tests.{lt-ltb, le-ltb}
use Rattle.lists.proofs.Scan.{search-start, search-on, search-found, search-end}
use Rattle.layout_nodes.specs.Listings.{area_at}
use Rattle.layout_nodes.proofs.Listed.{smaller_in, berth-entries}
use Rattle.layout_nodes.proofs.columns.berth.Goals as goal

pub loop-i-init : goal.loop-i-init
loop-i-init c =
    let a = c.args in
    search-start (smaller_in (area_at a.areas.now) a.listing.list c.area_at-area.result) a.listing.count

pub loop-i-preserved : goal.loop-i-preserved
loop-i-preserved c =
    let l = c.loop-i in
    let n = c.area_at-area.result in
    let a = c.args in
    let r = c.area_at in
    search-on (smaller_in (area_at a.areas.now) a.listing.list n) a.listing.count l.i l.invariant (omega arith)
    (rw (← r.ensures) (le-ltb r.result n c.if-area_at-area.false))

pub returns-then-area_at-area : goal.returns-then-area_at-area
returns-then-area_at-area c =
    let l = c.loop-i in
    let n = c.area_at-area in
    let a = c.args in
    let r = c.area_at in
    search-found (smaller_in (area_at a.areas.now) a.listing.list n.result) a.listing.count l.i l.invariant (omega arith)
    (rw (← r.ensures) (lt-ltb r.result n.result c.if-area_at-area.true))
    ∙ berth-entries c.requires a.place (area_at a.areas.now) n.ensures

pub returns : goal.returns
returns c =
    let l = c.loop-i in
    let n = c.area_at-area in
    let a = c.args in
    search-end (smaller_in (area_at a.areas.now) a.listing.list n.result) a.listing.count l.i l.invariant (omega arith)
    ∙ berth-entries c.requires a.place (area_at a.areas.now) n.ensures
