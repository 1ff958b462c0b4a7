-- `book` meets its contract: its steps one after the other, by proofs/Together.antt. The loop's invariant: the nodes still to come make of the
-- table what all make of the one that the piece left. Assumes nothing.
use mathlib.Core.Path.{◌≡◌}
use lib.ListN.{drop}
use Rattle.lists.specs.Lists.{limit}
use Rattle.booking.specs.NewNodes.{append_each}
use Rattle.booking.proofs.book.book.Given as goal

abbrev pub invariant-loop-n : goal.invariant-loop-n
invariant-loop-n l =
    append_each limit l.t (drop l.n-index l.n-items) ≡ append_each limit l.initial.t l.n-items
