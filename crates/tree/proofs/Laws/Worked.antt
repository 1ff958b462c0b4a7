-- Document 01, "Sheet 100 x 60, first cut Vertical": the definitions give what the paper says, in all the cases a to k at once.
use mathlib.Core.Path.{◌≡◌, refl}
use lib.Ieee.{of_bits, div, of_int}
use Rattle.piece.specs.Offers.{offers_in, offers_of, shapes}
use Rattle.piece.specs.Insertion.{block_of, table}
use Rattle.lists.specs.Lists.{swapped}
use Rattle.lists.specs.Search.{first_from, index_of}
use Rattle.tree.specs.Booking.{block}
use Rattle.tree.specs.Removal.{board, settled}
use Rattle.tree.specs.Figures.{sheet_usage}
use Rattle.tree.specs.ListSteps.{strike}
use Rattle.tree.specs.Family.{unheld_from}
use Rattle.tree.specs.Enrolment.{booked_list}
use Rattle.tree.specs.Worked.{computed, paper}

pub worked : computed ≡ paper
unfolding computed paper offers_in offers_of shapes block_of table block board settled sheet_usage of_bits div of_int booked_list unheld_from strike index_of first_from swapped
worked = refl
