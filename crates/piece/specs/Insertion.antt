-- Document 01, "Insertion": the nodes that a shape makes of a free piece, once over the cut.
use Rattle.std.specs.Prelude.{List, [], ◌∷◌, ◌++◌, ℕ, ◌+◌, ◌*◌, ◌-◌, length, take, replicate}
use Rattle.piece.specs.declared.orientation.Orientation.{Orientation}
use Rattle.piece.specs.declared.orientation.Orientation.TheVariants.{Horizontal}
use Rattle.piece.specs.declared.size.Size.{Size}
use Rattle.piece.specs.declared.node.Kind.{Kind}
use Rattle.piece.specs.declared.node.Kind.TheVariants.{Free, Part, Structure}
use Rattle.piece.specs.declared.insertion_blueprint.InsertionShape.{InsertionShape}
use Rattle.piece.specs.declared.insertion_blueprint.InsertionShape.TheVariants.{AlongCurrentCut, AcrossCurrentCut, AlongThenAcross, AcrossThenAlong}
use Rattle.piece.specs.declared.insertion_blueprint.InsertionNode.{InsertionNode}
use Rattle.piece.specs.declared.insertion_blueprint.InsertionBlueprint.{InsertionBlueprint}
use Rattle.piece.specs.Sides.{other, sized, laid, area}
use Rattle.piece.specs.Row.{Row, nil, grow}

-- Document 02, No. 4: "Cutting a piece off takes the blade width from the remainder, or all of the remainder if that is less". What is left of the
-- remainder (nothing, where that is less: subtraction ends at 0), and how much was eaten: the lesser of the two
abbrev pub left_behind : (blade rest : ℕ) → ℕ
left_behind blade rest = rest - blade

abbrev pub eaten_behind : (blade rest : ℕ) → ℕ
eaten_behind blade rest = rest - left_behind blade rest

-- a node to be made: what it is, its size, and "how much was eaten behind it"
pub record Made : Type 0 where
  pub kind : Kind
  pub size : Size
  pub eaten : ℕ

-- a node that is cut off something, and one with nothing eaten behind it: what goes last, and a structure of full size, which is cut from nothing
abbrev pub cut_from : Kind → ℕ → ℕ → ℕ → Made
cut_from k w h eaten = record { kind = k; size = sized w h; eaten = eaten }

abbrev pub made : Kind → ℕ → ℕ → Made
made k w h = cut_from k w h 0

-- "For cut Horizontal and part w x h, these nodes are created in order": the piece is W x H, and a node's place in the block is its
-- place in that order. The blade is b wide: what is cut off has something eaten behind it, and the free piece is what is left
unfoldable pub table : InsertionShape → (b W H w h : ℕ) → Row Made
table AlongCurrentCut b W H w h =
    grow 0 (cut_from Part w H (eaten_behind b (W - w))) nil (grow 1 (made Free (left_behind b (W - w)) H) nil nil)
table AcrossCurrentCut b W H w h =
    grow 0 (made Structure W H)
    (grow 1 (cut_from Part W h (eaten_behind b (H - h))) nil (grow 2 (made Free W (left_behind b (H - h))) nil nil))
    nil
table AlongThenAcross b W H w h =
    grow 0 (cut_from Structure w H (eaten_behind b (W - w)))
    (grow 1 (cut_from Part w h (eaten_behind b (H - h))) nil (grow 2 (made Free w (left_behind b (H - h))) nil nil))
    (grow 3 (made Free (left_behind b (W - w)) H) nil nil)
table AcrossThenAlong b W H w h =
    grow 0 (made Structure W H)
    (grow 1 (cut_from Structure W h (eaten_behind b (H - h)))
    (grow 2 (cut_from Part w h (eaten_behind b (W - w))) nil (grow 3 (made Free (left_behind b (W - w)) h) nil nil))
    (grow 4 (made Free W (left_behind b (H - h))) nil nil))
    nil

-- how many nodes a shape makes
abbrev pub new_nodes : InsertionShape → ℕ
new_nodes AlongCurrentCut = 2
new_nodes AcrossCurrentCut = 3
new_nodes AlongThenAcross = 4
new_nodes AcrossThenAlong = 5

abbrev pub laid_made : Orientation → Made → Made
laid_made c m = record { kind = m.kind; size = laid c m.size; eaten = m.eaten }

abbrev pub laid_all : Orientation → Row Made → Row Made
laid_all c nil = nil
laid_all c (grow p m k r) = grow p (laid_made c m) (laid_all c k) (laid_all c r)

-- "For Vertical exchange the two axes."
unfoldable pub block_of : InsertionShape → ℕ → Orientation → Size → Size → Row Made
block_of s b c piece part =
    laid_all c (table s b (laid c piece).width (laid c piece).height (laid c part).width (laid c part).height)

-- what a block covers: the areas of its parts and its free pieces, and the strips that were eaten. A structure is covered by what is in it
abbrev pub own_area : Kind → Size → ℕ
own_area Free s = area s
own_area Part s = area s
own_area Structure s = 0

-- the strip behind a node in a row of pieces with this cut: the cut before it left the other side whole
abbrev pub strip : Orientation → Made → ℕ
strip c m = m.eaten * (laid c m.size).height

abbrev pub covered : Orientation → Row Made → ℕ
covered c nil = 0
covered c (grow p m k r) = own_area m.kind m.size + strip c m + covered (other c) k + covered c r

-- the parent of a node that hangs where the free piece hung
abbrev pub outside : ℕ
outside = 255

abbrev pub insertion_node_of : ℕ → Orientation → Made → InsertionNode
insertion_node_of q c m = record { size = m.size; parent = q; kind = m.kind; cut = c; eaten = m.eaten }

-- the nodes of a block in creation order, with their parents; "a child's cut is the other one"
abbrev pub nodes_in_order : ℕ → Orientation → Row Made → List InsertionNode
nodes_in_order q c nil = []
nodes_in_order q c (grow p m k r) = insertion_node_of q c m ∷ (nodes_in_order p (other c) k ++ nodes_in_order q c r)

-- the nodes as the code holds them: five entries and a count; past the count stands the zero entry
abbrev pub no_node : InsertionNode
no_node = insertion_node_of 0 Horizontal (made Free 0 0)

unfoldable pub as_blueprint : List InsertionNode → InsertionBlueprint
as_blueprint l = record { nodes = take 5 (l ++ replicate 5 no_node); count = length l }

unfoldable pub blueprint_of : InsertionShape → ℕ → Orientation → Size → Size → InsertionBlueprint
blueprint_of s b c piece part = as_blueprint (nodes_in_order outside c (block_of s b c piece part))
