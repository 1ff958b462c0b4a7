-- Document 02, No. 4, worked with a blade of width 3: the definitions give what is worked out by hand, in all the cases at once; and where the blade
-- took the last of the sheet, the usage is not 1.
use mathlib.Core.Path.{◌≡◌, refl}
use native.Mathlib.Omega.{arith}
use lib.Ieee.{of_bits, div, of_int}
use Rattle.piece.specs.declared.insertion_blueprint.InsertionShape.TheVariants.{AlongCurrentCut}
use Rattle.piece.specs.Insertion.{block_of, table}
use Rattle.lists.specs.Search.{first_from}
use Rattle.tree.specs.Booking.{block}
use Rattle.tree.specs.Removal.{board, settled}
use Rattle.tree.specs.Figures.{sheet_usage, one}
use Rattle.tree.specs.Family.{unheld_from}
use Rattle.tree.specs.Worked.{used, usage}
use Rattle.tree.specs.WorkedBlade.{sawn, computed, expected}
use Rattle.tree.proofs.Whole.{one-is-full}

pub worked-blade : computed ≡ expected
unfolding computed expected block_of table block board settled sheet_usage of_bits div of_int unheld_from first_from
worked-blade = refl

-- case 3
pub blade-not-full : usage (sawn AlongCurrentCut 99 60) ≡ used one → ⊥
unfolding block_of table block sheet_usage
blade-not-full e = omega (arith, one-is-full 5940 6000 (omega arith) (omega arith) (omega arith) (cc e))
