-- A row of siblings, read from the column of the next ones. `limit`, the number of places, is also the number that says that there is no such
-- place, as in the table; it is `LIMIT` in the code and a parameter here.
use Rattle.std.specs.Prelude.{List, [], ◌∷◌, cond, ℕ, zero, suc, leb, get_or}

-- the places from c on, at most so many
unfoldable pub siblings : ℕ → List ℕ → ℕ → ℕ → List ℕ
siblings limit next zero c = []
siblings limit next (suc m) c = let r = c ∷ siblings limit next m (get_or next c 0) in cond (leb limit c) [] r
