-- Nobody has to believe this file: it only says what an inner function is handed, and whoever calls that proves it.
use Rattle.std.specs.Prelude.{◌≡◌, List, ℕ, ◌<◌, get_or, length}
use Rattle.lists.specs.Lists.{limit}

-- `omit_all`, `strike_all`: each entry is a place, and none stands twice
pub record Single (xs : List ℕ) : Type 0 where
  pub low : (k : ℕ) → k < length xs → get_or xs k 0 < limit
  pub once : (j k : ℕ) → j < length xs → k < length xs → get_or xs j 0 ≡ get_or xs k 0 → j ≡ k

-- `spot_in`: the first n entries are places, and the column says of each where it stands: so none stands twice
pub record Spotted (l : List ℕ) (n : ℕ) (spots : List ℕ) : Type 0 where
  pub low : (k : ℕ) → k < n → get_or l k 0 < limit
  pub back : (k : ℕ) → k < n → get_or spots (get_or l k 0) 0 ≡ k
