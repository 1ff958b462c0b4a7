-- Which places a list names.
use Rattle.std.specs.Prelude.{List, [], ◌∷◌, Bool, cond, ◌&&◌, not, ℕ, zero, suc, ◌+◌, eqb, ltb, leb, get_or, Option, Some, None}
use Rattle.lists.specs.Lists.{limit, zeros}
use Rattle.lists.specs.Search.{every}

-- p is not the entry at j
abbrev pub other_at : List ℕ → ℕ → ℕ → Bool
other_at l p j = not (eqb p (get_or l j 0))

-- p is none of the first n entries
abbrev pub unnamed : List ℕ → ℕ → ℕ → Bool
unnamed l n p = every (other_at l p) n

-- the entry at i is below the bound, and none of those before it
abbrev pub new_at : ℕ → List ℕ → ℕ → Bool
new_at bound l i = ltb (get_or l i 0) bound && unnamed l i (get_or l i 0)

-- there are n entries, each is below the bound, and none stands twice
unfoldable pub ok_b : ℕ → List ℕ → ℕ → Bool
ok_b bound l n = leb n bound && every (new_at bound l) n

-- the values of f at n numbers from i on, in order
unfoldable pub column : (ℕ → ℕ) → ℕ → ℕ → List ℕ
column f zero i = []
column f (suc n) i = f i ∷ column f n (i + 1)

-- 1 if p is one of the first n entries, else 0
abbrev pub flag_at : List ℕ → ℕ → ℕ → ℕ
flag_at l n p = cond (unnamed l n p) 0 1

-- the flag of each number below the bound, where the list is as it should be, and zeros otherwise
unfoldable pub flags_of : ℕ → List ℕ → ℕ → List ℕ
flags_of bound l n = cond (ok_b bound l n) (column (flag_at l n) bound 0) (zeros bound)

-- the flags of a list that is as it should be
abbrev pub flagged : List ℕ → ℕ → Option (List ℕ)
flagged l n = cond (ok_b limit l n) (Some (flags_of limit l n)) None
