-- Document 02, No. 5, worked: the definitions give what is worked out by hand, in all the cases at once; and how many structures are to go.
use mathlib.Core.Path.{◌≡◌, refl}
use mathlib.Core.List.{[], ◌∷◌}
use Rattle.piece.specs.Insertion.{block_of, table}
use Rattle.lists.specs.Search.{first_from}
use Rattle.tree.specs.Booking.{block}
use Rattle.tree.specs.Removal.{board, settled}
use Rattle.tree.specs.Family.{unheld_from}
use Rattle.tree.specs.Worked.{opening_tree}
use Rattle.tree.specs.Tidy.{empties}
use Rattle.tree.specs.WorkedTidy.{case_k, two_deep, strip, computed, expected}

pub worked-tidy : computed ≡ expected
unfolding computed expected block_of table block board settled unheld_from first_from
worked-tidy = refl

pub worked-steps : (empties case_k ∷ empties two_deep ∷ empties strip ∷ empties opening_tree ∷ []) ≡ (1 ∷ 2 ∷ 1 ∷ 0 ∷ [])
unfolding block_of table block board settled unheld_from first_from
worked-steps = refl
