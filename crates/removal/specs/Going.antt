-- What a removal takes out: "taking a subtree out goes down child by child and ends with its own node"; then the free piece at the end of the row.
use Rattle.std.specs.Prelude.{List, [], ◌∷◌, ◌++◌, ℕ, ◌+◌, cond}
use Rattle.piece.specs.Sides.{area}
use Rattle.piece.specs.declared.node.Datum.{Datum}
use Rattle.piece.specs.Kinds.{is_part}
use Rattle.table.specs.declared.Node.{Node}
use Rattle.table.specs.Table.{at}
use Rattle.table.specs.Steps.{free_last_place}
use Rattle.lists.specs.Lists.{limit, entries}
use Rattle.walks.specs.Columns.{order_in}
use Rattle.removal.specs.declared.going.Going.{Going}

-- the places that go with x, where the layout holds so many nodes
unfoldable pub going_of : List Node → ℕ → ℕ → List ℕ
going_of t x held = order_in limit t held x ++ free_last_place t (at t x).parent

-- the places as the code has them
abbrev pub places : Going → List ℕ
places g = entries g.count g.order

-- the area of a part; another piece has none
abbrev pub area_if_part : Datum → ℕ
area_if_part d = cond (is_part d.kind) (area d.size) 0

-- the areas of the parts along an order
abbrev pub area_along : List Node → List ℕ → ℕ
area_along t [] = 0
area_along t (p ∷ ps) = area_if_part (at t p).datum + area_along t ps
