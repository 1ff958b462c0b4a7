-- Searches in a list, and tests of each entry.
use Rattle.std.specs.Prelude.{List, Bool, true, cond, ◌&&◌, ◌||◌, not, ℕ, zero, suc, ◌+◌, eqb, ltb, get_or}

-- the first number from i on, among n, of which f holds; the number past them where there is none
unfoldable pub first_from : (ℕ → Bool) → ℕ → ℕ → ℕ
first_from f zero i = i
first_from f (suc n) i = let r = first_from f n (i + 1) in cond (f i) i r

-- f holds of each number below n
unfoldable pub every : (ℕ → Bool) → ℕ → Bool
every f zero = true
every f (suc n) = every f n && f n

-- the place p stands at i
abbrev pub stands_at : List ℕ → ℕ → ℕ → Bool
stands_at l p i = eqb (get_or l i 0) p

-- the first index of the first n entries at which p stands, or n
unfoldable pub index_of : List ℕ → ℕ → ℕ → ℕ
index_of l n p = first_from (stands_at l p) n 0

-- i is below n, or the entry at i is 0
abbrev pub zero_at : List ℕ → ℕ → ℕ → Bool
zero_at l n i = ltb i n || eqb (get_or l i 0) 0

-- each entry from n on is 0, up to the bound
unfoldable pub zero_tail : ℕ → List ℕ → ℕ → Bool
zero_tail bound l n = every (zero_at l n) bound

-- the serial at i is 0, or is not that at j
abbrev pub apart : List ℕ → ℕ → ℕ → Bool
apart s i j = eqb (get_or s i 0) 0 || not (eqb (get_or s i 0) (get_or s j 0))

-- the serial at i is 0 or none of those before it
abbrev pub apart_below : List ℕ → ℕ → Bool
apart_below s i = every (apart s i) i

-- no serial but 0 stands twice below the bound
unfoldable pub differ : ℕ → List ℕ → Bool
differ bound s = every (apart_below s) bound
