-- Where each place stands in a list.
use Rattle.std.specs.Prelude.{List, ℕ}
use Rattle.lists.specs.Lists.{limit}
use Rattle.lists.specs.Search.{index_of}
use Rattle.lists.specs.Flags.{column}

-- the first index of each place among the first n entries, or n
unfoldable pub spots_of : List ℕ → ℕ → List ℕ
spots_of l n = column (index_of l n) limit 0
