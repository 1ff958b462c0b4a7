-- `book` meets its contract: its steps one after the other, by proofs/Together.antt. The loop's invariant: the nodes still to come make of the
-- table what all make of the one that the piece left. Assumes nothing.
use mathlib.Core.Path.{◌≡◌}
use native.Mathlib.Omega.{arith}
use Rattle.booking.specs.declared.new_nodes.NewNodes.{NewNodes}
use Rattle.booking.specs.Book.{new_nodes_at}
use Rattle.booking.specs.NewNodes.{no_new, those}
use Rattle.booking.proofs.Runs.{next-entry, none_left}
use Rattle.booking.proofs.Together.{new_by, new-few, plant-needs, put-needs, enrol-needs, booked-by}
use Rattle.booking.proofs.book.book.Goals as goal
use Rattle.booking.proofs.book.book.Goals.{After-new_at-new}

-- the nodes that are made
module _ (c : After-new_at-new) where
  abbrev new : NewNodes
  new = c.new_at-new.result

  new_is : let a = c.args in new ≡ new_nodes_at a.nodes.nodes c.unlink.new.nodes a.x a.shape a.size a.number a.blade a.last
  new_is =
      let a = c.args in
      new_by a.nodes a.x a.shape a.size a.number a.blade a.last c.unlink.new.nodes c.new_places-places.ensures
      c.site_of-site.ensures c.new_at-new.ensures

pub new_at-new-requires : goal.new_at-new-requires
new_at-new-requires c =
    let h = c.requires.spent in
    rw c.site_of-site.ensures (omega arith)

pub shared_ref_as_front-n-items : goal.shared_ref_as_front-n-items
shared_ref_as_front-n-items c =
    let a = c.args in
    new-few a.nodes a.x a.shape a.size a.number a.blade a.last c.requires c.unlink.ensures (new_is c.before)

pub append-requires : goal.append-requires
append-requires c =
    let a = c.args in
    plant-needs a.nodes a.x a.shape a.size a.number a.blade a.last c.requires c.unlink.ensures (new_is c.before.before.before.before.before.before)
    c.loop-n.n-index c.loop-n-test.true

pub loop-n-preserved : goal.loop-n-preserved
loop-n-preserved c =
    let l = c.loop-n in
    rw c.append.ensures (rw (next-entry (those c.new_at-new.result) l.n-index no_new c.loop-n-test.true) at l.invariant)

pub put_frees-free-requires : goal.put_frees-free-requires
put_frees-free-requires c =
    let a = c.args in
    put-needs a.nodes a.x a.shape a.size a.number a.blade a.last c.requires c.unlink.ensures (new_is c.before.before.before.before.before.before.before) c.omit-less.ensures

pub less_parent-fewer-requires : goal.less_parent-fewer-requires
less_parent-fewer-requires c = c.requires.removable_kept

pub enrol-removable-requires : goal.enrol-removable-requires
enrol-removable-requires c =
    let a = c.args in
    enrol-needs a.nodes a.x a.shape a.size a.number a.blade a.last c.requires c.unlink.ensures (new_is c.before.before.before.before.before.before.before.before.before.before)
    c.less_parent-fewer.ensures

pub returns : goal.returns
returns c =
    let a = c.args in
    booked-by a.nodes a.x a.shape a.size a.number a.blade a.last
    c.unlink.ensures
    (new_is c.before.before.before.before.before.before.before.before.before.before.before)
    (rw (none_left (those c.new_at-new.result) c.loop-n.n-index c.loop-n-test.false) at c.loop-n.invariant)
    c.omit-less.ensures
    c.put_frees-free.ensures
    c.less_parent-fewer.ensures
    c.enrol-removable.ensures
