-- A column at a place is that field of the node there: what the walks, which read nodes, owe to their definitions, which stand over columns. Assumes
-- nothing.
use mathlib.Core.Path.{◌≡◌, refl}
use mathlib.Core.List.{List, map}
use Prim.Native.Nat.{ℕ}
use lib.ListN.{get_or, get_or-map}
use Rattle.piece.specs.Numbers.{kind_no, cut_no}
use Rattle.table.specs.declared.Node.{Node}
use Rattle.table.specs.Table.{zero_node, at}
use Rattle.table.specs.Columns.{kind_no_of}
use Rattle.walks.specs.Snapshot.{bytes_of_node}
use Rattle.walks.specs.Columns.{level_of, cut_no_of, number_of, width_of, height_of, eaten_of, columns_of, node_bytes_in}

pub column : (f : Node → ℕ) (t : List Node) (p : ℕ) → get_or (map f t) p (f zero_node) ≡ f (at t p)
column f t p = get_or-map f t p zero_node

-- the bytes of a node
abbrev pub bytes_of : Node → List ℕ
bytes_of n =
    let d = n.datum in
    bytes_of_node d.level (kind_no d.kind) (cut_no d.cut) d.number d.size.width d.size.height d.eaten

pub bytes-column : (t : List Node) (p : ℕ) → node_bytes_in (columns_of t) p ≡ bytes_of (at t p)
bytes-column t p =
    rw (
      column level_of t p,
      column kind_no_of t p,
      column cut_no_of t p,
      column number_of t p,
      column width_of t p,
      column height_of t p,
      column eaten_of t p,
    ) refl
