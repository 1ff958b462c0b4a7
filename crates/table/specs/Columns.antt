-- The columns of a table: a number of each node, in the places' order.
use Rattle.std.specs.Prelude.{List, map, ℕ}
use Rattle.piece.specs.Sides.{area}
use Rattle.piece.specs.Numbers.{kind_no}
use Rattle.table.specs.declared.Node.{Node}

-- the numbers
abbrev pub area_of : Node → ℕ
area_of n = area n.datum.size

abbrev pub serial_of : Node → ℕ
serial_of n = n.datum.serial

abbrev pub first_of : Node → ℕ
first_of n = n.first

abbrev pub next_of : Node → ℕ
next_of n = n.next

abbrev pub kind_no_of : Node → ℕ
kind_no_of n = kind_no n.datum.kind

-- the column of each
abbrev pub areas_of : List Node → List ℕ
areas_of t = map area_of t

abbrev pub serials_of : List Node → List ℕ
serials_of t = map serial_of t

abbrev pub firsts_of : List Node → List ℕ
firsts_of t = map first_of t

abbrev pub nexts_of : List Node → List ℕ
nexts_of t = map next_of t

abbrev pub kinds_of : List Node → List ℕ
kinds_of t = map kind_no_of t
