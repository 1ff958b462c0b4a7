-- `lists::shift::swap_out` meets its contract, which is its two stores. Assumes nothing.
use borrow.Author.Rules.{rules}
use Rattle.lists.specs.Lists.{swap_out}
use Rattle.lists.proofs.shift.swap_out.Goals as goal

pub returns : goal.returns
unfolding swap_out
returns c = search rules
