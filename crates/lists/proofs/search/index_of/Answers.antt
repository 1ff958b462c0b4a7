-- `lists::search::index_of` meets its contract: a search, of which `Scan` has the steps. Assumes nothing.
use native.Mathlib.Omega.{arith}
use borrow.Author.Tests.{eq-eqb, ne_eqb}
use Rattle.lists.specs.Search.{index_of, stands_at}
use Rattle.lists.proofs.Scan.{search-start, search-on, search-found, search-end}
use Rattle.lists.proofs.search.index_of.Goals as goal

pub loop-i-init : goal.loop-i-init
loop-i-init c = search-start (stands_at c.args.list.now c.args.place) c.args.count

pub loop-i-preserved : goal.loop-i-preserved
loop-i-preserved c =
    let l = c.loop-i in
    let a = c.args in
    search-on (stands_at a.list.now a.place) a.count l.i l.invariant (omega arith) (ne_eqb _ _ c.if-list-i.false)

pub returns : goal.returns
unfolding index_of
returns c =
    let l = c.loop-i in
    let a = c.args in
    search-end (stands_at a.list.now a.place) a.count l.i l.invariant (omega arith)

pub returns-then-list-i : goal.returns-then-list-i
unfolding index_of
returns-then-list-i c =
    let l = c.loop-i in
    let a = c.args in
    search-found (stands_at a.list.now a.place) a.count l.i l.invariant (omega arith) (eq-eqb _ _ c.if-list-i.true)
