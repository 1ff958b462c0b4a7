-- What the routine lists over the columns of a table, by the way of the cut. `limit`, the number of places, is also the number that says that there
-- is no such place, as in the table; it is `LIMIT` in the code and a parameter here.
use Rattle.std.specs.Prelude.{List, [], ◌∷◌, ◌++◌, cond, not, ◌&&◌, ◌||◌, ℕ, zero, suc, ◌+◌, eqb, leb, get_or, take, drop}
use Rattle.piece.specs.declared.orientation.Orientation.{Orientation}
use Rattle.piece.specs.declared.orientation.Orientation.TheVariants.{Horizontal, Vertical}
use Rattle.piece.specs.Sides.{other}
use Rattle.table.specs.declared.Node.{Node}
use Rattle.walks.specs.Columns.{Columns, widths_of, heights_of}
use Rattle.saw.specs.declared.cut.Cut.{Cut}
use Rattle.saw.specs.Cuts.{cut_bytes}

-- the sides that a cut of this way divides
abbrev pub sides_in : Orientation → (width height : List ℕ) → List ℕ
sides_in Horizontal width height = height
sides_in Vertical width height = width

abbrev pub sides_of : Orientation → List Node → List ℕ
sides_of way t = sides_in way (widths_of t) (heights_of t)

-- the later sibling of c that a cut comes before: a last one that has nothing of the side has none, but where something was eaten behind c
abbrev pub rest_of : ℕ → (next side eaten : List ℕ) → ℕ → ℕ
rest_of limit next side eaten c =
    cond (leb limit (get_or next c 0)) limit
    (cond (eqb (get_or side (get_or next c 0) 0) 0 && eqb (get_or eaten c 0) 0) limit (get_or next c 0))

-- the kind of what is left from the place r on
abbrev pub left_along : ℕ → (next kind side eaten : List ℕ) → ℕ → ℕ
left_along limit next kind side eaten r = cond (leb limit (rest_of limit next side eaten r)) (get_or kind r 0) 3

-- the cut that takes the piece at c off the board, where there is more of its row, from r on
abbrev pub cut_before : ℕ → (next kind side eaten : List ℕ) → Orientation → ℕ → ℕ → ℕ → List Cut
cut_before limit next kind side eaten way i c r =
    cond (leb limit r) []
    (record {
      place = i;
      way = way;
      distance = get_or side c 0;
      piece = get_or kind c 0;
      remainder = left_along limit next kind side eaten r;
      eaten = get_or eaten c 0;
    }
    ∷ [])

-- whether the piece at c itself comes to lie in the pile: a part does, and a free piece that has something of the side
abbrev pub own_listed : (kind side : List ℕ) → ℕ → ℕ
own_listed kind side c = cond (eqb (get_or kind c 0) 1 || (eqb (get_or kind c 0) 0 && not (eqb (get_or side c 0) 0))) 1 0

-- how many pieces of the pile the row from the place c on becomes, of at most so many nodes
unfoldable pub piles_listed : ℕ → (first next kind width height eaten : List ℕ) → Orientation → ℕ → ℕ → ℕ
piles_listed limit first next kind width height eaten way zero c = 0
piles_listed limit first next kind width height eaten way (suc n) c =
    let r = rest_of limit next (sides_in way width height) eaten c in
    let below = piles_listed limit first next kind width height eaten (other way) n (get_or first c 0) in
    let all =
    own_listed kind (sides_in way width height) c + below + piles_listed limit first next kind width height eaten way n r in
    cond (leb limit c) 0 all

-- the cuts of the row from the place c on, at most so many nodes, whose board is at the place i of the pile
unfoldable pub cuts_listed : ℕ → (first next kind width height eaten : List ℕ) → Orientation → ℕ → ℕ → ℕ → List Cut
cuts_listed limit first next kind width height eaten way zero i c = []
cuts_listed limit first next kind width height eaten way (suc n) i c =
    let side = sides_in way width height in
    let r = rest_of limit next side eaten c in
    let below = cuts_listed limit first next kind width height eaten (other way) n i (get_or first c 0) in
    let piles = own_listed kind side c + piles_listed limit first next kind width height eaten (other way) n (get_or first c 0) in
    let all =
    cut_before limit next kind side eaten way i c r
    ++ (below ++ cuts_listed limit first next kind width height eaten way n (i + piles) r) in
    cond (leb limit c) [] all

abbrev pub listed_in : ℕ → Columns → Orientation → ℕ → ℕ → ℕ → List Cut
listed_in limit s way n i c = cuts_listed limit s.first s.next s.kind s.width s.height s.eaten way n i c

abbrev pub piles_in : ℕ → Columns → Orientation → ℕ → ℕ → ℕ
piles_in limit s way n c = piles_listed limit s.first s.next s.kind s.width s.height s.eaten way n c

-- the list as the routine leaves it: each entry with what its cut loses, 10 bytes
unfoldable pub entry_bytes : Cut → List ℕ → List ℕ
entry_bytes c r = cut_bytes c (c.eaten ∷ r)

unfoldable pub entries_of_cuts : List Cut → List ℕ
entries_of_cuts [] = []
entries_of_cuts (c ∷ cs) = entry_bytes c (entries_of_cuts cs)

-- the first nine bytes of each of n entries, and the tenth of each
unfoldable pub nines_of : ℕ → List ℕ → List ℕ
nines_of zero l = []
nines_of (suc n) l = take 9 l ++ nines_of n (drop 10 l)

unfoldable pub tenths_of : ℕ → List ℕ → List ℕ
tenths_of zero l = []
tenths_of (suc n) l = get_or l 9 0 ∷ tenths_of n (drop 10 l)
