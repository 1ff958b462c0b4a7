-- Document 01, "Sound layout": "all nodes hang under it". Each row is walked and its places are marked; then every held place but the top
-- is marked.
use Rattle.std.specs.Prelude.{List, Bool, cond, ◌||◌, ℕ, zero, suc, eqb, leb, get_or, set, replicate}
use Rattle.lists.specs.Search.{every}
use Rattle.table.specs.declared.Node.{Node}
use Rattle.table.specs.Table.{at}
use Rattle.sound.specs.Columns.{nexts_of}
use Rattle.sound.specs.Rows.{parent_b}

-- the siblings from p on, at most so many, are marked
unfoldable pub mark_row : ℕ → List ℕ → ℕ → ℕ → List ℕ → List ℕ
mark_row limit next zero p f = f
mark_row limit next (suc m) p f =
    let r = mark_row limit next m (get_or next p 0) (set f p 1) in cond (leb limit p) f r

-- the rows of the first n places
unfoldable pub mark_rows : ℕ → List ℕ → List ℕ → ℕ → List ℕ → List ℕ
mark_rows limit first next zero f = f
mark_rows limit first next (suc n) f = mark_row limit next limit (get_or first n 0) (mark_rows limit first next n f)

-- the row of a held structure; another place has none
abbrev pub hang_row : ℕ → List Node → ℕ → List ℕ → List ℕ
hang_row limit t q f = cond (parent_b (at t q)) (mark_row limit (nexts_of t) limit (at t q).first f) f

-- the rows of the held structures among the first n places; proofs/ByRows.antt says that this marks as much as `mark_rows`
unfoldable pub hang_rows : ℕ → List Node → ℕ → List ℕ → List ℕ
hang_rows limit t zero f = f
hang_rows limit t (suc n) f = hang_row limit t n (hang_rows limit t n f)

-- held places but the top are marked
abbrev pub marked_at : List ℕ → List ℕ → ℕ → Bool
marked_at serial f i = eqb i 0 || (eqb (get_or serial i 0) 0 || eqb (get_or f i 0) 1)

unfoldable pub marked_b : ℕ → List ℕ → List ℕ → Bool
marked_b limit serial f = every (marked_at serial f) limit

unfoldable pub hung_b : ℕ → List ℕ → List ℕ → List ℕ → Bool
hung_b limit serial first next = marked_b limit serial (mark_rows limit first next limit (replicate limit 0))
