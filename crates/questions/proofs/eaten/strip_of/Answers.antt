-- `strip_of` meets its contract: the strip is as wide as the amount and as long as the side that was left whole.
use Rattle.questions.proofs.eaten.strip_of.Goals as goal

pub returns : goal.returns
returns c = rw (c.area.ensures, c.laid.ensures)
