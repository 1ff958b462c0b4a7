-- The columns of a table, and the walks on them.
use Rattle.std.specs.Prelude.{List, map, ℕ, Float}
use Rattle.piece.specs.Numbers.{cut_no}
use Rattle.table.specs.declared.Node.{Node}
pub use Rattle.table.specs.Columns.{firsts_of, nexts_of, kinds_of, areas_of}
use Rattle.walks.specs.Order.{order_of}
use Rattle.walks.specs.Usage.{usage_along}
use Rattle.walks.specs.Snapshot.{bytes_at, snapshot_of}
use Rattle.walks.specs.declared.columns.Columns as lent

-- what a snapshot writes of a node, beside its kind
abbrev pub level_of : Node → ℕ
level_of n = n.datum.level

abbrev pub cut_no_of : Node → ℕ
cut_no_of n = cut_no n.datum.cut

abbrev pub number_of : Node → ℕ
number_of n = n.datum.number

abbrev pub width_of : Node → ℕ
width_of n = n.datum.size.width

abbrev pub height_of : Node → ℕ
height_of n = n.datum.size.height

abbrev pub eaten_of : Node → ℕ
eaten_of n = n.datum.eaten

abbrev pub widths_of : List Node → List ℕ
widths_of t = map width_of t

abbrev pub heights_of : List Node → List ℕ
heights_of t = map height_of t

abbrev pub eatens_of : List Node → List ℕ
eatens_of t = map eaten_of t

-- the columns, together: the record is that of the struct of src/columns.rt
abbrev pub Columns : Type 0
Columns = lent.Columns

abbrev pub columns_of : List Node → Columns
columns_of t =
    record {
      first = firsts_of t;
      next = nexts_of t;
      level = map level_of t;
      kind = kinds_of t;
      cut = map cut_no_of t;
      number = map number_of t;
      width = widths_of t;
      height = heights_of t;
      area = areas_of t;
      eaten = eatens_of t;
    }

-- the bytes of the node at a place, and of the subtree of x, down to so many nodes
abbrev pub node_bytes_in : Columns → ℕ → List ℕ
node_bytes_in c = bytes_at c.level c.kind c.cut c.number c.width c.height c.eaten

abbrev pub snapshot_in : ℕ → Columns → ℕ → ℕ → List ℕ
snapshot_in limit c left x = snapshot_of limit c.first c.next (node_bytes_in c) left x

abbrev pub order_in : ℕ → List Node → ℕ → ℕ → List ℕ
order_in limit t left x = order_of limit (firsts_of t) (nexts_of t) left x

abbrev pub usage_in : ℕ → List Node → ℕ → ℕ → Float
usage_in limit t left x = usage_along limit (firsts_of t) (nexts_of t) (kinds_of t) (areas_of t) left x
