-- What the code adds up for the eaten area, over the places of a table: behind each node a strip as long as the side that its parent's cut did not divide.
-- A child's cut is the other one, so that the node's own cut names that side. proofs/EatenSum.antt says that on a sound layout this is the eaten area of
-- specs/Figures.antt of crate `tree`.
use Rattle.std.specs.Prelude.{List, ℕ, zero, suc, ◌+◌, ◌*◌}
use Rattle.piece.specs.declared.node.Datum.{Datum}
use Rattle.piece.specs.Sides.{laid}
use Rattle.table.specs.declared.Node.{Node}
use Rattle.table.specs.Table.{at}

abbrev pub strip_of : Datum → ℕ
strip_of d = d.eaten * (laid d.cut d.size).height

-- the strips of the first n places
unfoldable pub strips_of : List Node → ℕ → ℕ
strips_of t zero = 0
strips_of t (suc n) = strips_of t n + strip_of (at t n).datum
