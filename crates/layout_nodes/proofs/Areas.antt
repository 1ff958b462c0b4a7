-- The column of a table's areas: what it says of a place is what the table says. Assumes nothing.
use mathlib.Core.Path.{◌≡◌, sym, ap, fun_ext}
use mathlib.Core.List.{List}
use Prim.Native.Nat.{ℕ, ◌≤◌, ◌<◌}
use native.Mathlib.Omega.{arith}
use native.Mathlib.Decide.{dec_lt}
use lib.ListN.{length, get_or-map, get_or-eq_default}
use borrow.Author.Tests.{lt-ltb, le-ltb}
use Rattle.lists.specs.Lists.{limit}
use Rattle.table.specs.declared.Node.{Node}
use Rattle.table.specs.Table.{zero_node}
use Rattle.table.specs.Columns.{area_of, areas_of}
use Rattle.layout_nodes.specs.Listings.{area_at, area_in}

module _ (t : List Node) (len : length t ≡ limit) where
  -- looked up in the column, a place has the area that it has in the table
  pub area-at : (p : ℕ) → area_at (areas_of t) p ≡ area_in t p
  area-at p = go (dec_lt p limit)
    where
      go : Dec (p < limit) → area_at (areas_of t) p ≡ area_in t p
      go (yes h) = rw (lt-ltb p limit h) (get_or-map area_of t p zero_node)
      go (no h) =
          let m : limit ≤ p = omega arith in
          rw (le-ltb p limit m) (sym (ap area_of (get_or-eq_default t zero_node {n = p} (omega arith))))

  -- so that a step on the column is the step on the table
  pub areas-are : area_at (areas_of t) ≡ area_in t
  areas-are = fun_ext area-at
