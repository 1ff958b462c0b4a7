-- The nodes that the code makes of a blueprint are those of the block, in the order of creation: `made-is`. It goes by the four shapes of
-- document 01's table. Assumes nothing.
use mathlib.Core.Path.{◌≡◌, refl, ◌∙◌}
use mathlib.Core.Bool.{Bool, and-true, and-false}
use mathlib.Core.List.{List, [], ◌∷◌}
use Prim.Native.Nat.{ℕ, ◌+◌, ◌≤◌}
use native.Mathlib.Omega.{arith}
use lib.ListN.{length, take}
use borrow.Author.Tests.{lt-ltb}
use Rattle.piece.specs.declared.size.Size.{Size}
use Rattle.piece.specs.declared.node.Datum.{Datum}
use Rattle.piece.specs.declared.insertion_blueprint.InsertionShape.{InsertionShape}
use Rattle.piece.specs.declared.insertion_blueprint.InsertionShape.TheVariants.{AlongCurrentCut, AcrossCurrentCut, AlongThenAcross, AcrossThenAlong}
use Rattle.piece.specs.declared.insertion_blueprint.InsertionNode.{InsertionNode}
use Rattle.piece.specs.declared.orientation.Orientation.{Orientation}
use Rattle.piece.specs.Insertion.{block_of, blueprint_of, nodes_in_order, new_nodes, outside, table}
use Rattle.piece.proofs.Padded.{padded-whole}
use Rattle.piece.proofs.Blocks.{block-length, blueprint-count, held_whole, new-nodes-few}
use Rattle.tree.specs.Booking.{Booking, block, planted}
use Rattle.table.specs.declared.Node.{Node}
use Rattle.table.specs.Table.{at}
use Rattle.booking.specs.declared.new_nodes.NewNode.{NewNode}
use Rattle.booking.specs.declared.new_nodes.NewNodes.{NewNodes}
use Rattle.booking.specs.declared.new_nodes.Site.{Site}
use Rattle.booking.specs.NewNodes.{add_node, add_all, booking_at, deepest, frees_of, held_new, leaves, next_node, no_new, none_new, those}
use Rattle.booking.specs.Book.{new_nodes_at, site_of}

-- with the site at the level of the piece
made_at : (s : Site) (shape : InsertionShape) (c : Orientation) (piece size : Size) → s.level + deepest shape ≤ 255 →
    add_all s none_new (nodes_in_order outside c (block_of shape s.blade c piece size))
    ≡ held_new (leaves s.under s.alone (planted (booking_at s shape size) s.level c (block_of shape s.blade c piece size)))
unfolding next_node block_of held_new table
made_at s AlongCurrentCut c piece size h = simp (and-true, and-false)
made_at s AcrossCurrentCut c piece size h = simp (and-true, lt-ltb s.level 255 (omega arith))
made_at s AlongThenAcross c piece size h = simp (and-true, and-false, lt-ltb s.level 255 (omega arith))
made_at s AcrossThenAlong c piece size h =
    simp (and-true, lt-ltb s.level 255 (omega arith), lt-ltb (s.level + 1) 255 (omega arith))

-- what the code makes of the blueprint at a site is the block that takes the place of d there
pub made-is : (d : Datum) (s : Site) (shape : InsertionShape) (size : Size) → s.level ≡ d.level → d.level + deepest shape ≤ 255 →
    add_all s none_new (nodes_in_order outside d.cut (block_of shape s.blade d.cut d.size size))
    ≡ held_new (leaves s.under s.alone (block (booking_at s shape size) d))
unfolding block
made-is d s shape size e h = rw (← e) (made_at s shape d.cut d.size size (rw e h))

-- a block has as many nodes as its shape makes
planted-count : (b : Booking) (q : ℕ) (none : Bool) (shape : InsertionShape) (level : ℕ) (c : Orientation) (piece size : Size) →
    length (leaves q none (planted b level c (block_of shape b.blade c piece size))) ≡ new_nodes shape
unfolding block_of table
planted-count b q none AlongCurrentCut level c piece size = refl
planted-count b q none AcrossCurrentCut level c piece size = refl
planted-count b q none AlongThenAcross level c piece size = refl
planted-count b q none AcrossThenAlong level c piece size = refl

pub leaves-count : (b : Booking) (d : Datum) (q : ℕ) (none : Bool) → length (leaves q none (block b d)) ≡ new_nodes b.shape
unfolding block
leaves-count b d q none = planted-count b q none b.shape d.level d.cut d.size b.size

-- and at most two of them are free
planted-frees : (b : Booking) (q : ℕ) (none : Bool) (shape : InsertionShape) (level : ℕ) (c : Orientation) (piece size : Size) →
    length (frees_of (leaves q none (planted b level c (block_of shape b.blade c piece size)))) ≤ 2
unfolding block_of table
planted-frees b q none AlongCurrentCut level c piece size = omega arith
planted-frees b q none AcrossCurrentCut level c piece size = omega arith
planted-frees b q none AlongThenAcross level c piece size = omega arith
planted-frees b q none AcrossThenAlong level c piece size = omega arith

pub frees-few : (b : Booking) (d : Datum) (q : ℕ) (none : Bool) → length (frees_of (leaves q none (block b d))) ≤ 2
unfolding block
frees-few b d q none = planted-frees b q none b.shape d.level d.cut d.size b.size

-- up to five nodes are held as they are
pub held-those : (l : List NewNode) → length l ≤ 5 → those (held_new l) ≡ l
unfolding held_new
held-those l h = padded-whole no_new 5 5 l h

-- the nodes of a blueprint are those of its block
pub blueprint-listed : (shape : InsertionShape) (blade : ℕ) (c : Orientation) (piece size : Size) →
    take (blueprint_of shape blade c piece size).count (blueprint_of shape blade c piece size).nodes
    ≡ nodes_in_order outside c (block_of shape blade c piece size)
unfolding blueprint_of
blueprint-listed shape blade c piece size =
    held_whole (nodes_in_order outside c (block_of shape blade c piece size)) (rw (block-length shape blade outside c c piece size) (new-nodes-few shape))

pub blueprint-few : (shape : InsertionShape) (blade : ℕ) (c : Orientation) (piece size : Size) → (blueprint_of shape blade c piece size).count ≤ 5
blueprint-few shape blade c piece size = rw (blueprint-count shape blade c piece size) (new-nodes-few shape)

-- what the code makes has as many nodes as the blueprint
pub add-all-count : (s : Site) (m : NewNodes) (ns : List InsertionNode) → (add_all s m ns).count ≡ m.count + length ns
add-all-count s m [] = omega arith
add-all-count s m (n ∷ ns) = omega (arith, add-all-count s (add_node s m n) ns)

pub new-at-count : (t left : List Node) (x : ℕ) (shape : InsertionShape) (size : Size) (number blade last : ℕ) →
    (new_nodes_at t left x shape size number blade last).count ≡ new_nodes shape
unfolding new_nodes_at site_of
new-at-count t left x shape size number blade last =
    let d = (at t x).datum in
    add-all-count (site_of t left x number blade last) none_new (nodes_in_order outside d.cut (block_of shape blade d.cut d.size size))
    ∙ rw (block-length shape blade outside d.cut d.cut d.size size) (omega arith)
