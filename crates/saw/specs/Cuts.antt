-- Change request 3 (document 02): the list of saw cuts of a tree. "Pieces under a Vertical cut are listed by one routine which gives each piece, once
-- cut off, to the routine for Horizontal cuts, and that one back again": here one definition over the way. Document 02, No. 4: "a cut is also listed before
-- an offcut of area 0 where something was eaten".
use Rattle.std.specs.Prelude.{List, [], ◌∷◌, ◌++◌, map, Bool, cond, ◌&&◌, ℕ, ◌+◌, eqb, length}
use Rattle.piece.specs.declared.orientation.Orientation.{Orientation}
use Rattle.piece.specs.declared.size.Size.{Size}
use Rattle.piece.specs.declared.node.Datum.{Datum}
use Rattle.piece.specs.declared.node.Kind.{Kind}
use Rattle.piece.specs.declared.node.Kind.TheVariants.{Free, Part, Structure}
use Rattle.piece.specs.Sides.{area, other}
use Rattle.piece.specs.Row.{nil, grow}
use Rattle.piece.specs.Kinds.{is_free}
use Rattle.piece.specs.Numbers.{kind_no, cut_no}
use Rattle.tree.specs.Tree.{Tree}
use Rattle.tree.specs.Snapshot.{two_then, four_then}
use Rattle.saw.specs.declared.cut.Cut.{Cut}
use Rattle.saw.specs.Saw.{side, with_area}

-- "a free piece of area 0 gets no cut and is left out"
abbrev pub is_empty : Datum → Bool
is_empty d = is_free d.kind && eqb (area d.size) 0

-- a row before which so much was eaten, as it is cut: such a piece stays where something was eaten before it, since a cut is listed before it
abbrev pub kept_after : ℕ → Tree → Tree
kept_after eaten nil = nil
kept_after eaten (grow p d k r) =
    cond (is_empty d && eqb eaten 0) (kept_after 0 r) (grow p d (kept_after 0 k) (kept_after d.eaten r))

abbrev pub without_empty : Tree → Tree
without_empty t = kept_after 0 t

-- "exactly the parts and free pieces of the tree, in tree order"; "a free piece of area 0 .. is left out"
abbrev pub own_board : Kind → Size → List Size
own_board Free s = with_area s
own_board Part s = s ∷ []
own_board Structure s = []

abbrev pub boards : Tree → List Size
boards nil = []
boards (grow p d k r) = own_board d.kind d.size ++ (boards k ++ boards r)

-- the kind of what is left of a row behind a cut: that of its one piece e, "as in snapshots; 3 for several siblings". What is cut again is 3, also where
-- it is a piece and what is eaten behind it
abbrev pub left_no : Datum → Tree → ℕ
left_no e nil = kind_no e.kind
left_no e (grow p d k r) = 3

-- the cut that takes d off the board at the place i of the pile, where there is more of its row
abbrev pub cut_off : Orientation → ℕ → Datum → Tree → List Cut
cut_off way i d nil = []
cut_off way i d (grow p e k r) =
    record {
      place = i;
      way = way;
      distance = side way d.size;
      piece = kind_no d.kind;
      remainder = left_no e r;
      eaten = d.eaten;
    }
    ∷ []

-- how many pieces of the pile a piece has become when all of it is cut
abbrev pub piles_of : Datum → Tree → ℕ
piles_of d k = length (own_board d.kind d.size ++ boards k)

-- the cuts of a row that fills the board at the place i of the pile, under a cut of this way. A piece is cut off, then comes what is cut of it, and
-- then the rest of the row, which lies in the pile behind what that piece has become.
unfoldable pub row_cuts : Orientation → ℕ → Tree → List Cut
row_cuts way i nil = []
row_cuts way i (grow p d k r) = cut_off way i d r ++ (row_cuts (other way) i k ++ row_cuts way (i + piles_of d k) r)

-- the cuts of a tree: the sheet is the one piece of the pile
abbrev pub cuts : Tree → List Cut
cuts nil = []
cuts (grow p d k r) = row_cuts d.cut 0 (without_empty k)

-- "9 bytes each: place in the pile from 0 (2), way (1), distance from its left or upper edge (4), kinds of the two resulting pieces (1 each ..)"
unfoldable pub cut_bytes : Cut → List ℕ → List ℕ
cut_bytes c r = two_then c.place (cut_no c.way ∷ four_then c.distance (c.piece ∷ c.remainder ∷ r))

unfoldable pub bytes_of_cuts : List Cut → List ℕ
bytes_of_cuts [] = []
bytes_of_cuts (c ∷ cs) = cut_bytes c (bytes_of_cuts cs)

-- an entry of 9 bytes can't carry what its cut loses: the recorded amounts stand beside the list, in its order, one byte a cut
abbrev pub amounts : List Cut → List ℕ
amounts cs = map (λ (c : Cut). c.eaten) cs
