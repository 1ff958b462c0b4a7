-- The walk down a subtree, child by child: what it writes of each node, before its children's or after them. Document 01, "Removal": "goes down child
-- by child"; "Tree snapshot": "each node before its children's subtrees, these in order".
use Rattle.std.specs.Prelude.{List, [], ◌∷◌, ◌++◌, ℕ, zero, suc, get_or}
use Rattle.walks.specs.Chain.{siblings}

-- what g gives of each place, one after the other
abbrev pub gathered : (ℕ → List ℕ) → List ℕ → List ℕ
gathered g [] = []
gathered g (c ∷ l) = g c ++ gathered g l

-- nothing of a place
abbrev pub nothing : ℕ → List ℕ
nothing x = []

-- the subtree of x, down to so many nodes
unfoldable pub walk_of : ℕ → (first next : List ℕ) → (before after : ℕ → List ℕ) → ℕ → ℕ → List ℕ
walk_of limit first next before after zero x = []
walk_of limit first next before after (suc n) x =
    before x ++ (gathered (walk_of limit first next before after n) (siblings limit next n (get_or first x 0)) ++ after x)
