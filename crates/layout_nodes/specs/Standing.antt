-- The nodes of a layout and its two lists, when all is as document 01's "Sound layout" says, as far as they show it: the table holds the tree, the
-- tree is sound, the lists hold its pieces, and the serials are right.
use Rattle.std.specs.Prelude.{ℕ}
use Rattle.piece.specs.declared.settings.Settings.{Settings}
use Rattle.tree.specs.Tree.{Tree}
use Rattle.tree.specs.Sound.{Sound}
use Rattle.tree.specs.Pieces.{FreeList, RemovableList, Serials}
use Rattle.table.specs.Table.{Holds}
use Rattle.lists.specs.Lists.{limit}
use Rattle.layout_nodes.specs.declared.LayoutNodes.{LayoutNodes}
use Rattle.layout_nodes.specs.Listings.{Kept, entries_of}

-- the tree is w and the last serial issued is last
pub record Stands (settings : Settings) (last : ℕ) (w : Tree) (n : LayoutNodes) : Type 0 where
  pub sound : Sound limit settings w
  pub holds : Holds limit n.nodes w
  pub free : FreeList w (entries_of n.free)
  pub removable : RemovableList w (entries_of n.removable)
  pub free_kept : Kept n.free
  pub removable_kept : Kept n.removable
  pub serials : Serials w last
