-- `less_parent` meets its contract. Assumes nothing.
use mathlib.Core.Path.{sym, ◌∙◌}
use Rattle.booking.proofs.book.less_parent.Goals as goal

pub returns-then-no_child : goal.returns-then-no_child
returns-then-no_child c = simp (c.strike.ensures, sym c.no_child.ensures ∙ c.if-no_child.true)

pub returns-else-no_child : goal.returns-else-no_child
returns-else-no_child c = c.requires.zeros ∙ simp (sym c.no_child.ensures ∙ c.if-no_child.false)
