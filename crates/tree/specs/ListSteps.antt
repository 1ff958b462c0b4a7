-- The steps on a list of places: a place is cut out, struck out with the final entry in its hole, pushed to the end, or put in where its area
-- belongs. Document 01, "Sound layout" and "Removal".
use Rattle.std.specs.Prelude.{◌≡◌, List, [], ◌∷◌, ◌++◌, cond, ◌⊎◌, ℕ, ◌+◌, ltb, get_or, length, take, drop}
use Rattle.lists.specs.Lists.{swapped}
use Rattle.lists.specs.Search.{first_from, index_of}

-- where a place stands in a list, or its length
abbrev pub spot : List ℕ → ℕ → ℕ
spot xs p = index_of xs (length xs) p

-- the list without p; what stood behind it moves up
unfoldable pub omit : List ℕ → ℕ → List ℕ
omit xs p = take (spot xs p) xs ++ drop (spot xs p + 1) xs

-- "removal puts the final entry into the hole"
unfoldable pub strike : List ℕ → ℕ → List ℕ
strike xs p = cond (ltb (spot xs p) (length xs)) (swapped xs (spot xs p)) xs

-- a new entry comes last
abbrev pub push : List ℕ → ℕ → List ℕ
push xs p = xs ++ (p ∷ [])

-- the first index with a smaller area than that of p, or the length
unfoldable pub berth : (ℕ → ℕ) → List ℕ → ℕ → ℕ
berth areas xs p = first_from (λ (i : ℕ). ltb (areas (get_or xs i 0)) (areas p)) (length xs) 0

-- a place that is newer than all others is put in: "greatest area first, equal areas by rising serial"
unfoldable pub put : (ℕ → ℕ) → List ℕ → ℕ → List ℕ
put areas xs p = take (berth areas xs p) xs ++ (p ∷ drop (berth areas xs p) xs)

-- the list names p
abbrev pub Names : ℕ → List ℕ → Type 0
Names p [] = ⊥
Names p (q ∷ qs) = (p ≡ q) ⊎ Names p qs

-- several places, one after the other
abbrev pub omit_all : List ℕ → List ℕ → List ℕ
omit_all xs [] = xs
omit_all xs (p ∷ ps) = omit_all (omit xs p) ps

abbrev pub strike_all : List ℕ → List ℕ → List ℕ
strike_all xs [] = xs
strike_all xs (p ∷ ps) = strike_all (strike xs p) ps

abbrev pub put_all : (ℕ → ℕ) → List ℕ → List ℕ → List ℕ
put_all areas xs [] = xs
put_all areas xs (p ∷ ps) = put_all areas (put areas xs p) ps
