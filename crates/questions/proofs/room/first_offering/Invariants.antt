-- `first_offering` meets its contract: a search along the free list, of which lists' `Scan` has the steps. An entry that counts names a place.
use Rattle.lists.proofs.Scan.{Searching}
use Rattle.questions.specs.Light.{offering_at}
use Rattle.questions.proofs.room.first_offering.Given as goal

abbrev pub invariant-loop-i : goal.invariant-loop-i
invariant-loop-i l = Searching (offering_at l.layout l.part) l.layout.frees l.i
