-- Document 01, "Figures", and the eaten area of document 02, No. 4.
use Rattle.std.specs.Prelude.{Bool, cond, ℕ, ◌+◌, ◌*◌, pos, Float}
use Rattle.std.specs.Float.{binary64}
use Rattle.std.specs.Float.Ieee.{of_bits, of_int, add, mul, div}
use Rattle.piece.specs.declared.orientation.Orientation.{Orientation}
use Rattle.piece.specs.declared.node.Kind.{Kind}
use Rattle.piece.specs.declared.node.Kind.TheVariants.{Free, Part, Structure}
use Rattle.piece.specs.Sides.{other, laid, area}
use Rattle.piece.specs.Row.{nil, grow}
use Rattle.piece.specs.Kinds.{is_free, is_part}
use Rattle.tree.specs.Tree.{Tree}

-- the areas of the pieces of a kind, added up
abbrev pub area_of_kind : (Kind → Bool) → Tree → ℕ
area_of_kind f nil = 0
area_of_kind f (grow p d k r) = cond (f d.kind) (area d.size) 0 + (area_of_kind f k + area_of_kind f r)

-- "used area is the sum over parts"
abbrev pub part_area : Tree → ℕ
part_area t = area_of_kind is_part t

-- "Free area is the sum of width times height over the free pieces, never what the parts leave over."
abbrev pub free_area : Tree → ℕ
free_area t = area_of_kind is_free t

-- "Eaten area is the sum, over all nodes, of the recorded amount times the node's height where its parent's cut is Vertical, its width where
-- Horizontal": of a row under a cut of this way, and below it
abbrev pub eaten_under : Orientation → Tree → ℕ
eaten_under c nil = 0
eaten_under c (grow p d k r) = d.eaten * (laid (other c) d.size).height + (eaten_under d.cut k + eaten_under c r)

-- of a tree; the top, which has no parent, counts as if its parent's cut were the other one
abbrev pub eaten_area : Tree → ℕ
eaten_area nil = 0
eaten_area (grow p d k r) = eaten_under (other d.cut) (grow p d k r)

-- the f64 0 and 1, and a whole number as an f64
abbrev pub nought : Float
nought = of_bits binary64 0

abbrev pub one : Float
one = of_bits binary64 4607182418800017408

abbrev pub whole : ℕ → Float
whole n = of_int binary64 (pos n)

-- "Sheet usage is used area divided by sheet area, one f64 division"
unfoldable pub sheet_usage : ℕ → ℕ → Float
sheet_usage used sheet = div binary64 (whole used) (whole sheet)

-- "Tree usage (004) is 1 for a part, 0 for a free piece, else .. divided by the node's area": what the children's gave is handed in
abbrev pub usage_of : Kind → ℕ → Float → Float
usage_of Free a s = nought
usage_of Part a s = one
usage_of Structure a s = div binary64 s (whole a)

-- "the children's area times usage added in order from 0": from s, the row's
unfoldable pub added : Float → Tree → Float
added s nil = s
added s (grow p d k r) =
    added (add binary64 s (mul binary64 (whole (area d.size)) (usage_of d.kind (area d.size) (added nought k)))) r

-- the tree usage of the first piece of the row; nothing has none
abbrev pub tree_usage : Tree → Float
tree_usage nil = nought
tree_usage (grow p d k r) = usage_of d.kind (area d.size) (added nought k)
