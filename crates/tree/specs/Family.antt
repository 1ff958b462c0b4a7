-- The parent of a piece, whether a piece has children, and the places that a new node takes. Document 01, "Marks": "A new node takes the lowest
-- unheld place, after the nodes it replaces were freed."
use Rattle.std.specs.Prelude.{Bool, false, cond, not, ◌||◌, ℕ, zero, suc, ◌+◌, ◌-◌, eqb}
use Rattle.lists.specs.Search.{first_from}
use Rattle.piece.specs.Row.{Row, nil, grow}
use Rattle.tree.specs.Tree.{Tree, is_nil}

-- the place is held in the row, or below it
abbrev pub holds : {A : Type 0} → ℕ → Row A → Bool
holds i nil = false
holds i (grow p d k r) = eqb i p || (holds i k || holds i r)

-- the place of the parent of x, where the row hangs under q
abbrev pub parent_in : ℕ → ℕ → Tree → ℕ
parent_in x q nil = q
parent_in x q (grow p d k r) = cond (eqb p x) q (cond (holds x k) (parent_in x p k) (parent_in x q r))

-- the place of the parent of x; the limit, which is no place, where it has none
abbrev pub parent_of : ℕ → ℕ → Tree → ℕ
parent_of limit x w = parent_in x limit w

-- the piece at q has no child
abbrev pub childless : ℕ → Tree → Bool
childless q nil = false
childless q (grow p d k r) = cond (eqb p q) (is_nil k) (childless q k || childless q r)

-- the lowest place from n on that the tree does not hold, or the limit
unfoldable pub unheld_from : ℕ → Tree → ℕ → ℕ
unheld_from limit w n = first_from (λ (p : ℕ). not (holds p w)) (limit - n) n

-- the places that new nodes get one after the other, once the tree w is what is left
abbrev pub new_place : ℕ → Tree → ℕ → ℕ
new_place limit w zero = unheld_from limit w 0
new_place limit w (suc i) = unheld_from limit w (new_place limit w i + 1)
