-- Nobody has to believe this file: it only says what an inner function is handed, and whoever calls that proves it.
use Rattle.std.specs.Prelude.{◌++◌, ℕ, ◌+◌, ◌≤◌, ◌<◌, get_or, length}
use Rattle.piece.specs.declared.size.Size.{Size}
use Rattle.piece.specs.declared.insertion_blueprint.InsertionShape.{InsertionShape}
use Rattle.piece.specs.Insertion.{new_nodes}
use Rattle.lists.specs.Lists.{limit}
use Rattle.tree.specs.ListSteps.{omit}
use Rattle.table.specs.Table.{at, unlink}
use Rattle.layout_nodes.specs.declared.LayoutNodes.{LayoutNodes}
use Rattle.layout_nodes.specs.Listings.{Kept, entries_of}
use Rattle.booking.specs.NewNodes.{enrolments, no_new, those}
use Rattle.booking.specs.Book.{less_parent, new_nodes_at}

-- `book`: that no index is out of bounds and no number overflows
pub record Bookable (n : LayoutNodes) (x : ℕ) (shape : InsertionShape) (size : Size) (number blade last : ℕ) : Type 0 where
  pub placed : x < limit
  pub hung : (at n.nodes x).parent < limit
  pub free_kept : Kept n.free
  pub removable_kept : Kept n.removable
  pub sited : (i : ℕ) → i < new_nodes shape
      → let m = get_or (new_nodes_at n.nodes (unlink limit n.nodes x) x shape size number blade last).list i no_new in (m.under < limit) × (m.place < limit)
  pub free_room : length (omit (entries_of n.free) x) + new_nodes shape ≤ limit
  pub removable_room : length
      (less_parent (unlink limit n.nodes x) (at n.nodes x).parent (entries_of n.removable)
      ++ enrolments (those (new_nodes_at n.nodes (unlink limit n.nodes x) x shape size number blade last)))
      ≤ limit
  pub spent : last ≤ 1000000
