-- What is written of the nodes along an order of places: the numbers of parts. Document 01, "Removal": "Part numbers of the subtree come out in
-- tree order"; "What the counter gets": "part numbers held".
-- An order is lent as an array, of which the first entries count (`entries` of lists/specs/Lists).
use Rattle.std.specs.Prelude.{◌≡◌, List, [], ◌∷◌, ◌++◌, cond, ℕ, zero, suc, ◌+◌, eqb}
use Rattle.piece.specs.declared.node.Datum.{Datum}
use Rattle.piece.specs.declared.node.Kind.TheVariants.{Part}
use Rattle.piece.specs.Row.{nil, grow}
use Rattle.piece.specs.Kinds.{is_part}
use Rattle.tree.specs.Tree.{Tree}
use Rattle.table.specs.declared.Node.{Node}
use Rattle.table.specs.Table.{at}
use Rattle.walks.specs.Walk.{gathered}

-- the numbers below n in order: of a table with n places, every place
unfoldable pub below : ℕ → List ℕ
below zero = []
below (suc n) = below n ++ (n ∷ [])

-- the number of a part; another piece has none
abbrev pub part_number : Datum → List ℕ
part_number d = cond (is_part d.kind) (d.number ∷ []) []

abbrev pub number_at : List Node → ℕ → List ℕ
number_at t p = part_number (at t p).datum

abbrev pub numbers_along : List Node → List ℕ → List ℕ
numbers_along t order = gathered (number_at t) order

-- how often a number stands in a list
abbrev pub occurrences : ℕ → List ℕ → ℕ
occurrences v [] = 0
occurrences v (x ∷ l) = cond (eqb x v) 1 0 + occurrences v l

-- how many parts a row has, with those below it
abbrev pub parts : Tree → ℕ
parts nil = 0
parts (grow p d k r) = cond (is_part d.kind) 1 0 + (parts k + parts r)

-- this holds of each piece of a row, and of those below: of its place, its datum and its children
abbrev pub Each : (ℕ → Datum → Tree → Type 0) → Tree → Type 0
Each P nil = Unit {0}
Each P (grow p d k r) = P p d k × Each P k × Each P r

-- no part has children
abbrev pub PartsEnd : Tree → Type 0
PartsEnd w = Each (λ p d k. d.kind ≡ Part → k ≡ nil) w
