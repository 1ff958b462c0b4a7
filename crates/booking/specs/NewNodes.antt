-- The nodes that a booking makes, in the order of creation, each with its parent: as the block of the tree says it (`leaves`), and as the code makes
-- them from a blueprint (`add_all`). proofs/Made.antt says that the two agree.
use Rattle.std.specs.Prelude.{Bool, true, false, cond, ◌&&◌, List, [], ◌∷◌, ◌++◌, ℕ, ◌+◌, eqb, ltb, leb, get_or, set, length, take, replicate}
use Rattle.piece.specs.declared.size.Size.{Size}
use Rattle.piece.specs.declared.node.Datum.{Datum}
use Rattle.piece.specs.declared.insertion_blueprint.InsertionShape.{InsertionShape}
use Rattle.piece.specs.declared.insertion_blueprint.InsertionShape.TheVariants.{AlongCurrentCut, AcrossCurrentCut, AlongThenAcross, AcrossThenAlong}
use Rattle.piece.specs.declared.insertion_blueprint.InsertionNode.{InsertionNode}
use Rattle.piece.specs.Row.{nil, grow}
use Rattle.piece.specs.Kinds.{is_free, is_part}
use Rattle.tree.specs.Tree.{Tree}
use Rattle.tree.specs.Booking.{Booking, planted_datum}
use Rattle.tree.specs.Enrolment.{when}
use Rattle.table.specs.declared.Node.{Node}
use Rattle.table.specs.Table.{append, zero_datum}
use Rattle.table.specs.Steps.{made_of}
use Rattle.booking.specs.declared.new_nodes.NewNode.{NewNode}
use Rattle.booking.specs.declared.new_nodes.NewNodes.{NewNodes}
use Rattle.booking.specs.declared.new_nodes.Site.{Site}

abbrev pub new_node : ℕ → Bool → ℕ → Datum → NewNode
new_node q first p d = record { under = q; place = p; eldest = first; datum = d }

-- the nodes of a row that comes under q, a node before its children and these before the next; none says that q has no child then
abbrev pub leaves : ℕ → Bool → Tree → List NewNode
leaves q none nil = []
leaves q none (grow p d k r) = new_node q none p d ∷ (leaves p true k ++ leaves q false r)

-- as the code holds them
abbrev pub no_new : NewNode
no_new = new_node 0 false 0 zero_datum

abbrev pub none_new : NewNodes
none_new = record { list = replicate 5 no_new; count = 0 }

unfoldable pub held_new : List NewNode → NewNodes
held_new l = record { list = take 5 (l ++ replicate 5 no_new); count = length l }

abbrev pub those : NewNodes → List NewNode
those n = take n.count n.list

-- what is booked at a site
abbrev pub booking_at : Site → InsertionShape → Size → Booking
booking_at s shape size =
    record { shape = shape; size = size; number = s.number; blade = s.blade; place = λ (i : ℕ). get_or s.places i 0; serial = s.serial }

-- one level deeper, as far as a level goes
abbrev pub deeper : ℕ → ℕ
deeper level = cond (ltb level 255) (level + 1) 255

-- how many levels below the free piece's a shape reaches
abbrev pub deepest : InsertionShape → ℕ
deepest AlongCurrentCut = 0
deepest AcrossCurrentCut = 1
deepest AlongThenAcross = 1
deepest AcrossThenAlong = 2

-- the next node of a blueprint: under the site, or under one that is made already
abbrev pub site_node : Site → ℕ → ℕ → Bool → ℕ → InsertionNode → NewNode
site_node s i q first level n =
    new_node q first (get_or s.places i 0)
    (planted_datum (booking_at s AlongCurrentCut n.size) i level n.cut (made_of n))

unfoldable pub next_node : Site → NewNodes → InsertionNode → NewNode
next_node s m n =
    cond (leb m.count n.parent)
    (site_node s m.count s.under (s.alone && eqb m.count 0) s.level n)
    (site_node s m.count (get_or m.list n.parent no_new).place (eqb (n.parent + 1) m.count)
    (deeper (get_or m.list n.parent no_new).datum.level) n)

abbrev pub add_node : Site → NewNodes → InsertionNode → NewNodes
add_node s m n = record { list = set m.list m.count (next_node s m n); count = m.count + 1 }

abbrev pub add_all : Site → NewNodes → List InsertionNode → NewNodes
add_all s m [] = m
add_all s m (n ∷ ns) = add_all s (add_node s m n) ns

-- ---- what becomes of them

-- in the table
abbrev pub append_each : ℕ → List Node → List NewNode → List Node
append_each limit t [] = t
append_each limit t (n ∷ ns) = append_each limit (append limit t n.under n.place n.datum) ns

-- in the free list: the places of those that are free
abbrev pub frees_of : List NewNode → List ℕ
frees_of [] = []
frees_of (n ∷ ns) = when (is_free n.datum.kind) n.place ++ frees_of ns

-- in the removable list: "a new part is appended, then any new node's parent if that had no child"
abbrev pub enrolments : List NewNode → List ℕ
enrolments [] = []
enrolments (n ∷ ns) = when (is_part n.datum.kind) n.place ++ (when n.eldest n.under ++ enrolments ns)
