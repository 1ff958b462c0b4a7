-- The places of a subtree, as a removal takes them out: what the walk over the columns gives, and what it means of a row; and the places of a row in
-- tree order. Document 01, "Removal": "goes down child by child and ends with its own node"; "in tree order, first child first".
use Rattle.std.specs.Prelude.{List, [], ◌∷◌, ◌++◌, ℕ}
use Rattle.piece.specs.Row.{Row, nil, grow}
use Rattle.walks.specs.Walk.{nothing, walk_of}

-- the own place
abbrev pub itself : ℕ → List ℕ
itself x = x ∷ []

-- the subtree of x, down to so many nodes
abbrev pub order_of : ℕ → (first next : List ℕ) → ℕ → ℕ → List ℕ
order_of limit first next left x = walk_of limit first next nothing itself left x

-- the places of a row, each after those below it
abbrev pub children_first : {A : Type 0} → Row A → List ℕ
children_first nil = []
children_first (grow p d k r) = (children_first k ++ (p ∷ [])) ++ children_first r

-- in tree order
abbrev pub preorder : {A : Type 0} → Row A → List ℕ
preorder nil = []
preorder (grow p d k r) = p ∷ (preorder k ++ preorder r)
