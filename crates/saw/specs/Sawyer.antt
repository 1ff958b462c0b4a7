-- Change request 3 (document 02): "kinds of the two resulting pieces (1 each, as in snapshots; 3 for several siblings)". The saw of Saw.antt does
-- without what a cut says of kinds. Here a sawyer believes it: he cuts no piece that was said to be a free piece or a part, one that was said to be
-- several siblings only the way that it was cut off, and one that was said to be a structure only the other way. In all else he does as the saw.
use Rattle.std.specs.Prelude.{List, [], ◌∷◌, ◌++◌, map, Bool, false, cond, not, ◌&&◌, ◌||◌, ℕ, zero, suc, ◌+◌, ◌-◌, eqb}
use Rattle.std.proofs.Math.Option.{Option, none, some}
use Rattle.piece.specs.declared.orientation.Orientation.{Orientation}
use Rattle.piece.specs.declared.orientation.Orientation.TheVariants.{Horizontal}
use Rattle.piece.specs.declared.size.Size.{Size}
use Rattle.piece.specs.declared.node.Kind.{Kind}
use Rattle.piece.specs.declared.node.Kind.TheVariants.{Structure}
use Rattle.piece.specs.Sides.{other}
use Rattle.piece.specs.Row.{nil, grow}
use Rattle.piece.specs.Kinds.{is_structure}
use Rattle.piece.specs.Numbers.{kind_no, cut_no}
use Rattle.tree.specs.Tree.{Tree, is_nil}
use Rattle.saw.specs.declared.cut.Cut.{Cut}
use Rattle.saw.specs.Saw.{side, slice, with_area, cuts_b, and_then}
use Rattle.saw.specs.Cuts.{without_empty, own_board}

-- a piece of the pile: its size, what it was said to be, and the way of the cut that made it
pub record Piece : Type 0 where
  pub size : Size
  pub said : ℕ
  pub way : Orientation

abbrev pub named_by : ℕ → Orientation → Size → Piece
named_by n way s = record { size = s; said = n; way = way }

abbrev pub sizes : List Piece → List Size
sizes pile = map (λ (x : Piece). x.size) pile

abbrev pub saids : List Piece → List ℕ
saids pile = map (λ (x : Piece). x.said) pile

abbrev pub same_way : Orientation → Piece → Bool
same_way way x = eqb (cut_no x.way) (cut_no way)

-- what was said of a piece lets it be cut this way: 3, several siblings; 2, a structure. Where some structure holds a structure alone (`nested`), a
-- structure can be cut either way.
abbrev pub may_cut : Bool → Orientation → Piece → Bool
may_cut nested way x = cond (eqb x.said 3) (same_way way x) (eqb x.said 2 && (nested || not (same_way way x)))

-- what a cut makes of a piece, as `halves`, and says of it
abbrev pub parted : Cut → Size → List Piece
parted c s =
    map (named_by c.piece c.way) (with_area (slice c.way c.distance s))
    ++ map (named_by c.remainder c.way) (with_area (slice c.way (side c.way s - (c.distance + c.eaten)) s))

-- the pile after a cut of its piece at this place
abbrev pub sawyer_at : Bool → Cut → ℕ → List Piece → Option (List Piece)
sawyer_at nested c i [] = none
sawyer_at nested c zero (x ∷ pile) = cond (may_cut nested c.way x && cuts_b c x.size) (some (parted c x.size ++ pile)) none
sawyer_at nested c (suc i) (x ∷ pile) = and_then (sawyer_at nested c i pile) (λ (p : List Piece). some (x ∷ p))

-- and after a list of cuts
abbrev pub sawyer : Bool → List Cut → List Piece → Option (List Piece)
sawyer nested [] pile = some pile
sawyer nested (c ∷ cs) pile = and_then (sawyer_at nested c c.place pile) (sawyer nested cs)

-- ---- what the tree says

-- a row of one piece
abbrev pub single : Tree → Bool
single nil = false
single (grow p d k r) = is_nil r

-- some structure of a row or below it is alone in its row
abbrev pub nested_row : Bool → Tree → Bool
nested_row alone nil = false
nested_row alone (grow p d k r) = (alone && is_structure d.kind) || (nested_row (single k) k || nested_row alone r)

-- some structure of a tree holds a structure alone, but for free pieces of area 0 that are left out
abbrev pub nested_in : Tree → Bool
nested_in t = nested_row false (without_empty t)

-- what a piece of this kind is said to be: its kind, or where it is alone in its row, the structure that holds it
abbrev pub name_no : Bool → Kind → ℕ
name_no alone κ = cond alone (kind_no Structure) (kind_no κ)

abbrev pub own_kind : Bool → Kind → Size → List ℕ
own_kind alone κ s = map (λ (b : Size). name_no alone κ) (own_board κ s)

abbrev pub row_kinds : Bool → Tree → List ℕ
row_kinds alone nil = []
row_kinds alone (grow p d k r) = own_kind alone d.kind d.size ++ (row_kinds (single k) k ++ row_kinds alone r)

-- what the boards of a tree are said to be, in the order of `boards`
abbrev pub board_kinds : Tree → List ℕ
board_kinds t = row_kinds false (without_empty t)

-- the sheet is a structure, to be cut as the top of the tree says
abbrev pub sheet_way : Tree → Orientation
sheet_way nil = Horizontal
sheet_way (grow p d k r) = other d.cut

abbrev pub uncut : Tree → Size → Piece
uncut t s = named_by (kind_no Structure) (sheet_way t) s
