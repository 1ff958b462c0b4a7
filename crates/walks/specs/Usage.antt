-- Tree usage over the columns. Document 01, "Figures": "Tree usage (004) is 1 for a part, 0 for a free piece, else the children's area times
-- usage added in order from 0, divided by the node's area."
use Rattle.std.specs.Prelude.{List, [], ◌∷◌, cond, ℕ, zero, suc, eqb, get_or, Float}
use Rattle.std.specs.Float.{binary64}
use Rattle.std.specs.Float.Ieee.{add, mul, div}
use Rattle.tree.specs.Figures.{nought, one, whole}
use Rattle.walks.specs.Chain.{siblings}

-- the area of a place, as an f64
abbrev pub weight : List ℕ → ℕ → Float
weight area c = whole (get_or area c 0)

-- "area times usage added in order" to s, where g gives each place's usage
abbrev pub summed : (ℕ → Float) → List ℕ → List ℕ → Float → Float
summed g area [] s = s
summed g area (c ∷ l) s = summed g area l (add binary64 s (mul binary64 (weight area c) (g c)))

-- the usage of the subtree of x, down to so many nodes; kinds are numbered as in a snapshot: 0 free, 1 part, 2 structure
unfoldable pub usage_along : ℕ → (first next kind area : List ℕ) → ℕ → ℕ → Float
usage_along limit first next kind area zero x = nought
usage_along limit first next kind area (suc n) x =
    let s = summed (usage_along limit first next kind area n) area (siblings limit next n (get_or first x 0)) nought in
    let r = div binary64 s (weight area x) in
    cond (eqb (get_or kind x 0) 0) nought (cond (eqb (get_or kind x 0) 1) one r)
