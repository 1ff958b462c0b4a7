-- Nobody has to believe this file: it only says what an inner function is handed, and whoever calls that proves it.
use Rattle.std.specs.Prelude.{List, [], ◌∷◌, ℕ, ◌≤◌, ◌<◌, length}
use Rattle.lists.specs.Lists.{limit}
use Rattle.tree.specs.ListSteps.{omit_all, strike_all}
use Rattle.table.specs.declared.Node.{Node}
use Rattle.table.specs.Table.{at, unlink}
use Rattle.table.specs.Steps.{unlink_all}
use Rattle.table.specs.Unheld.{lowest_from}
use Rattle.layout_nodes.specs.declared.LayoutNodes.{LayoutNodes}
use Rattle.layout_nodes.specs.Listings.{Kept, entries_of}
use Rattle.layout_nodes.specs.Inner.{Single}
use Rattle.removal.specs.Remove.{new_free}

-- `unlink_all`: each can be unlinked when its turn comes: it is a place, and so is its parent's then
abbrev pub Goes : ℕ → List Node → List ℕ → Type 0
Goes limit t [] = Unit {0}
Goes limit t (p ∷ ps) = (p < limit) × ((at t p).parent < limit) × Goes limit (unlink limit t p) ps

-- `remove`: that no index is out of bounds, no number overflows, and no list names a place twice
pub record Clearable (n : LayoutNodes) (g : List ℕ) (x last : ℕ) : Type 0 where
  pub placed : x < limit
  pub hung : (at n.nodes x).parent < limit
  pub ended : (at n.nodes (at n.nodes x).parent).last < limit
  pub free_kept : Kept n.free
  pub removable_kept : Kept n.removable
  pub free_single : Single (entries_of n.free)
  pub removable_single : Single (entries_of n.removable)
  pub goes : Goes limit n.nodes g
  pub some : lowest_from limit (unlink_all limit n.nodes g) 0 < limit
  pub free_room : length (omit_all (entries_of n.free) g) < limit
  pub removable_room : length (strike_all (entries_of n.removable) g) < limit
  pub wide : (new_free n.nodes x last).size.width ≤ 4294967295
  pub tall : (new_free n.nodes x last).size.height ≤ 4294967295
  pub spent : last ≤ 1000000
