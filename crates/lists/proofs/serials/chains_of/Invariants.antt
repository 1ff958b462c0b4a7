-- `lists::serials::chains_of` meets its contract: the places that were passed are in the chains. Assumes nothing.
use Rattle.lists.proofs.Chains.{Chaining}
use Rattle.lists.proofs.serials.chains_of.Given as goal

abbrev pub invariant-loop-i : goal.invariant-loop-i
invariant-loop-i l = Chaining l.s l.i l.head l.link
