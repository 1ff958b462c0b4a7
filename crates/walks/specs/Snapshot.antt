-- The tree snapshot over the columns. Document 01, "Tree snapshot": "each node before its children's subtrees, these in order, 13 bytes each: level,
-- kind (0 free, 1 part, 2 structure), cut (0 Horizontal, 1 Vertical), part number 2, width 4, height 4, highest byte first"; and, by document 02, No. 4, 1 byte more: what was eaten behind it.
use Rattle.std.specs.Prelude.{List, [], ◌∷◌, ℕ, get_or}
use Rattle.tree.specs.Snapshot.{two_then, four_then}
use Rattle.walks.specs.Walk.{nothing, walk_of}

-- the bytes of a node
abbrev pub bytes_of_node : (level kind cut number width height eaten : ℕ) → List ℕ
bytes_of_node level kind cut number width height eaten =
    level ∷ kind ∷ cut ∷ two_then number (four_then width (four_then height (eaten ∷ [])))

-- of the node at a place
abbrev pub bytes_at : (level kind cut number width height eaten : List ℕ) → ℕ → List ℕ
bytes_at level kind cut number width height eaten x =
    bytes_of_node (get_or level x 0) (get_or kind x 0) (get_or cut x 0) (get_or number x 0) (get_or width x 0) (get_or height x 0) (get_or eaten x 0)

-- of the subtree of x, down to so many nodes, where g gives each node's
abbrev pub snapshot_of : ℕ → (first next : List ℕ) → (ℕ → List ℕ) → ℕ → ℕ → List ℕ
snapshot_of limit first next g left x = walk_of limit first next g nothing left x
