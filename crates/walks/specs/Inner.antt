-- Nobody has to believe this file: it only says what an inner function is handed, and whoever calls that proves it.
use Rattle.std.specs.Prelude.{◌≡◌, List, ℕ, ◌<◌, ◌^◌, get_or}
use Rattle.tree.specs.Tree.{Tree, In, count}
use Rattle.table.specs.declared.Node.{Node}
use Rattle.table.specs.Table.{Holds}

-- an order that is walked along: its first n entries are places
abbrev pub Placed : ℕ → ℕ → List ℕ → Type 0
Placed limit n l = (i : ℕ) → i < n → get_or l i 0 < limit

-- `usage_of`: "areas stay below 2^52"
abbrev pub Small : List ℕ → Type 0
Small area = (i : ℕ) → get_or area i 0 < 2 ^ 52

-- `order_out`: the links that it follows agree. The table holds a tree of so many nodes, and x is one of its places
pub record Hangs (limit : ℕ) (t : List Node) (x held : ℕ) : Type 0 where
  pub tree : Tree
  pub holds : Holds limit t tree
  pub there : In x tree
  pub many : count tree ≡ held
