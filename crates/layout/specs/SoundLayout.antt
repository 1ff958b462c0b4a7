-- Document 01, "Sound layout (from 008, made complete here)": the rule, a named field for each clause.
use Rattle.std.specs.Prelude.{◌≡◌, List, ℕ, ◌-◌, ◌≤◌, length, take, drop, replicate}
use Rattle.tree.specs.Tree.{count}
use Rattle.tree.specs.Sound.{Sound}
use Rattle.tree.specs.Figures.{part_area}
pub use Rattle.tree.specs.Pieces.{Pieces, pieces_of, Before, Holding, FreeList, RemovableList, Serials}
use Rattle.table.specs.Table.{Holds}
use Rattle.layout.specs.declared.layout.Layout.{Layout}
use Rattle.layout.specs.Check.{limit, tree}

-- a list of n entries with a zero tail
pub record Counted (l : List ℕ) (n : ℕ) : Type 0 where
  pub room : n ≤ limit
  pub tail : drop n l ≡ replicate (limit - n) 0

pub record SoundLayout (l : Layout) : Type 0 where
  -- "2..255 nodes"; "sheet sides, stages and numbers are in the domain"; the top; levels, cuts, sides and sums; kinds
  pub sound : Sound limit l.settings (tree l)
  -- "all nodes hang under it, links agreeing"; "Unheld places .. are zero"
  pub holds : Holds limit l.nodes (tree l)
  pub held : l.held ≡ count (tree l)
  -- "used area is the sum over parts"
  pub used : l.used ≡ part_area (tree l)
  pub free : FreeList (tree l) (take l.frees l.free)
  pub removable : RemovableList (tree l) (take l.removables l.removable)
  -- "list tails .. are zero"
  pub free_tail : Counted l.free l.frees
  pub removable_tail : Counted l.removable l.removables
  pub serials : Serials (tree l) l.serial

-- what the type says of a layout: its three arrays have as many entries as there are places
pub record Sized (l : Layout) : Type 0 where
  pub nodes : length l.nodes ≡ limit
  pub free : length l.free ≡ limit
  pub removable : length l.removable ≡ limit
