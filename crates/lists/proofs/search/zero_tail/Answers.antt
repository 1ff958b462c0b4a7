-- `lists::search::zero_tail` meets its contract: every index that was passed is below the count or has a zero. Assumes nothing.
use mathlib.Core.Path.{◌≡◌, refl, sym}
use mathlib.Core.Bool.{true, false}
use native.Mathlib.Omega.{arith}
use borrow.Author.Tests.{eq-eqb, ne_eqb, lt-ltb, le-ltb}
use lib.ListN.{get_or}
use Rattle.lists.specs.Lists.{limit}
use Rattle.lists.specs.Search.{zero_at, zero_tail}
use Rattle.lists.proofs.Scan.{every_more, every-fails, every-all, every-at}
use Rattle.lists.proofs.search.zero_tail.Goals as goal

pub loop-i-init : goal.loop-i-init
loop-i-init c =
    let z = zero_at c.args.list.now c.args.count in
    every-all z c.args.count (λ i h. rw (lt-ltb i c.args.count h) refl)

pub returns-then-list-i-ne0 : goal.returns-then-list-i-ne0
unfolding zero_tail
returns-then-list-i-ne0 c =
    let l = c.loop-i in
    let a = c.args in
    let z = zero_at a.list.now a.count in
    let e : z l.i ≡ false = rw (le-ltb l.i a.count (omega arith), ne_eqb (get_or a.list.now l.i 0) 0 c.if-list-i-ne0.true) refl in
    sym (every-fails z limit l.i (omega arith) e)

pub loop-i-preserved : goal.loop-i-preserved
loop-i-preserved c =
    let l = c.loop-i in
    let a = c.args in
    let z = zero_at a.list.now a.count in
    let e : z l.i ≡ true = rw (le-ltb l.i a.count (omega arith), eq-eqb (get_or a.list.now l.i 0) 0 c.if-list-i-ne0.false) refl in
    every_more z l.i l.invariant e

pub returns : goal.returns
unfolding zero_tail
returns c =
    let l = c.loop-i in
    let z = zero_at c.args.list.now c.args.count in
    sym (every-all z limit (λ i h. every-at z l.i i l.invariant (omega arith)))
