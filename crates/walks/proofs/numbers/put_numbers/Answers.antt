-- `walks::numbers::put_numbers` meets its contract. Assumes nothing.
use native.Mathlib.Omega.{arith}
use Rattle.walks.specs.Along.{number_at}
use Rattle.walks.proofs.Entries.{wrote_none, wrote-more, wrote-length, wrote-room, wrote-all}
use Rattle.walks.proofs.numbers.put_numbers.Goals as goal

pub loop-i-init : goal.loop-i-init
loop-i-init c =
    let a = c.args in
    wrote_none (number_at a.nodes.now) a.order.now a.out.now

pub put_number-n-requires : goal.put_number-n-requires
put_number-n-requires c =
    let l = c.loop-i in
    let a = c.args in
    wrote-room (number_at a.nodes.now) a.order.now a.out.now l.i l.invariant a.count c.loop-i-test.true
    c.requires.1

pub loop-i-preserved : goal.loop-i-preserved
loop-i-preserved c =
    let l = c.loop-i in
    let a = c.args in
    let e = c.put_number-n.ensures in
    wrote-more (number_at a.nodes.now) a.order.now a.out.now l.i l.invariant e.written e.counted

pub shape_of-out : goal.shape_of-out
shape_of-out c =
    let a = c.args in
    let l = c.loop-i in
    wrote-length (number_at a.nodes.now) a.order.now a.out.now l.i l.invariant

pub returns : goal.returns
returns c =
    let a = c.args in
    let l = c.loop-i in
    let e = wrote-all (number_at a.nodes.now) a.order.now a.out.now a.count (omega arith) l.invariant in
    record { written = e.0; counted = e.1 }
