-- Document 01, "Sound layout": the clauses on the two lists and on the sums, over columns of the table.
use Rattle.std.specs.Prelude.{List, Bool, true, false, cond, ◌&&◌, ◌||◌, not, ℕ, zero, suc, ◌+◌, eqb, ltb, leb, get_or}
use Rattle.lists.specs.Search.{every}

-- the place is held by a free piece, or by a part or a structure: what the free list holds, and what the removable list holds
abbrev pub wanted_in : Bool → List ℕ → List ℕ → ℕ → Bool
wanted_in free serial kind i =
    not (eqb (get_or serial i 0) 0) && cond free (eqb (get_or kind i 0) 0) (not (eqb (get_or kind i 0) 0))

abbrev pub agree : Bool → Bool → Bool
agree true b = b
agree false b = not b

-- the flags stand exactly where the list's places should be
unfoldable pub covers_b : ℕ → Bool → List ℕ → List ℕ → List ℕ → Bool
covers_b limit free serial kind f =
    every (λ (i : ℕ). agree (wanted_in free serial kind i) (eqb (get_or f i 0) 1)) limit

-- "greatest area first, equal areas by rising serial": the piece at p before the one at q
abbrev pub before : List ℕ → List ℕ → ℕ → ℕ → Bool
before area serial p q =
    ltb (get_or area q 0) (get_or area p 0) || (eqb (get_or area p 0) (get_or area q 0) && ltb (get_or serial p 0) (get_or serial q 0))

-- of n entries each comes before the next
unfoldable pub sorted_b : List ℕ → List ℕ → List ℕ → ℕ → Bool
sorted_b area serial l n =
    every (λ (k : ℕ). leb n (k + 1) || before area serial (get_or l k 0) (get_or l (k + 1) 0)) n

-- the number of held places among the first n
unfoldable pub held_in : List ℕ → ℕ → ℕ
held_in serial zero = 0
held_in serial (suc n) = held_in serial n + cond (eqb (get_or serial n 0) 0) 0 1

-- the area of the pieces of a kind among the first n places
unfoldable pub area_listed : ℕ → List ℕ → List ℕ → ℕ → ℕ
area_listed k kind area zero = 0
area_listed k kind area (suc n) = area_listed k kind area n + cond (eqb (get_or kind n 0) k) (get_or area n 0) 0

-- no serial is above the last one issued
unfoldable pub none_above_b : ℕ → List ℕ → ℕ → Bool
none_above_b limit serial last = every (λ (i : ℕ). leb (get_or serial i 0) last) limit
