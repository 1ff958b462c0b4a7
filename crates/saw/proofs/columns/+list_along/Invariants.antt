-- The measure of the routine over lent columns: `left`.
use Rattle.saw.proofs.columns.+list_along.Given as goal

abbrev pub decreases-list_along : goal.decreases-list_along
decreases-list_along l = l.left
