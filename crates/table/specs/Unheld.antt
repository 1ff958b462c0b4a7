-- The search for an unheld place. Document 01, "Marks": "A new node takes the lowest unheld place".
use Rattle.std.specs.Prelude.{Bool, List, ℕ, ◌-◌, eqb}
use Rattle.lists.specs.Search.{first_from}
use Rattle.table.specs.declared.Node.{Node}
use Rattle.table.specs.Table.{at}

abbrev pub is_unheld : List Node → ℕ → Bool
is_unheld t i = eqb (at t i).datum.serial 0

-- the lowest place from n on that is not held, and the limit where all are; what is past the limit is no place and stays as it is
unfoldable pub lowest_from : ℕ → List Node → ℕ → ℕ
lowest_from limit t n = first_from (is_unheld t) (limit - n) n
