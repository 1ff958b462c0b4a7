-- The measure of the routine of the list of cuts: `left`.
use Rattle.saw.proofs.routines.+list_row.Given as goal

abbrev pub decreases-list_row : goal.decreases-list_row
decreases-list_row l = l.left
