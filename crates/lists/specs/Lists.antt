-- The steps on a list of places, each as a function of lists. Of a list l the first n entries count.
-- `sets l k vs` is l with vs written from k on. It says something of lists of every length, as the code does: a check knows of a lent array
-- that it has `limit` entries where it is read or written, and not that its list is as long. proofs/Padded.antt has the steps on whole lists.
use Rattle.std.specs.Prelude.{List, [], ◌∷◌, ◌++◌, ℕ, zero, suc, ◌+◌, ◌-◌, get_or, set, length, take, drop, replicate}
use Rattle.std.proofs.lemmas.List.Edits.{sets}

-- the number of entries of a list, and so of places of a table and of nodes of a layout: `LIMIT` of src/lib.rt, and the one limit of all contracts
abbrev pub limit : ℕ
limit = 255

-- n zeros
abbrev pub zeros : ℕ → List ℕ
zeros n = replicate n 0

-- the first n entries of a list, where 0 stands for what is not there: on a list that is long enough it is `take` (walks/proofs/Entries.antt)
unfoldable pub entries : ℕ → List ℕ → List ℕ
entries zero l = []
entries (suc n) l = entries n l ++ (get_or l n 0 ∷ [])

-- the entries that count, and zeros up to the bound
unfoldable pub padded : ℕ → List ℕ → List ℕ
padded bound xs = xs ++ zeros (bound - length xs)

-- p stands at k, what stood from k on stands one higher, and the rest is as it was
unfoldable pub put_in : List ℕ → ℕ → ℕ → ℕ → List ℕ
put_in l n k p = sets l k (p ∷ take (n - k) (drop k l))

-- what stood behind k stands one lower, with a zero behind it, and the rest is as it was
unfoldable pub take_out : List ℕ → ℕ → ℕ → List ℕ
take_out l n k = sets l k (take (n - (k + 1)) (drop (k + 1) l) ++ (0 ∷ []))

-- the final entry stands at k, and a zero where it stood
unfoldable pub swap_out : List ℕ → ℕ → ℕ → List ℕ
swap_out l n k = set (set l k (get_or l (n - 1) 0)) (n - 1) 0

-- a list less its entry at k, the final entry in the hole
unfoldable pub swapped : List ℕ → ℕ → List ℕ
swapped xs k = take (length xs - 1) (set xs k (get_or xs (length xs - 1) 0))
