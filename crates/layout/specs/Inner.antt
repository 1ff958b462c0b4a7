-- Nobody has to believe this file: it only says what an inner function is handed, and whoever calls that proves it.
use Rattle.std.specs.Prelude.{◌≡◌, true, ℕ, ◌+◌, ◌-◌, ◌≤◌}
use Rattle.piece.specs.declared.rotation.Rotation.{Rotation}
use Rattle.piece.specs.declared.parttype.PartType.{PartType}
use Rattle.piece.specs.declared.insertion_blueprint.InsertionShape.{InsertionShape}
use Rattle.piece.specs.Insertion.{new_nodes}
use Rattle.piece.specs.declared.node.Kind.TheVariants.{Free}
use Rattle.piece.specs.Offered.{offered_b}
use Rattle.tree.specs.Tree.{At}
use Rattle.tree.specs.Pieces.{max_serial}
use Rattle.tree.specs.Apart.{Removable}
use Rattle.walks.specs.Inner.{Placed}
use Rattle.removal.specs.declared.going.Going.{Going}
use Rattle.removal.specs.Going.{going_of, places}
use Rattle.layout.specs.declared.layout.Layout.{Layout}
use Rattle.layout.specs.Check.{limit, tree}
use Rattle.layout.specs.Asked.{part_b}
use Rattle.layout.specs.SoundLayout.{SoundLayout, Sized}
use Rattle.layout.specs.Insert.{piece_at}

-- `Layout::booked`: what is known when an insertion is accepted
pub record Insertable (l : Layout) (x : ℕ) (p : PartType) (r : Rotation) (s : InsertionShape) : Type 0 where
  pub sized : Sized l
  pub sound : SoundLayout l
  pub there : At x (piece_at l x) (tree l)
  pub free : (piece_at l x).kind ≡ Free
  pub part : part_b p ≡ true
  pub offered : offered_b (piece_at l x) p l.settings r s ≡ true
  pub room : l.held - 1 + new_nodes s ≤ limit
  pub spent : l.serial + new_nodes s ≤ max_serial

-- `Layout::taken_out`: what is known when a removal is accepted, but for the buffer's room
pub record Takeable (l : Layout) (x : ℕ) : Type 0 where
  pub sized : Sized l
  pub sound : SoundLayout l
  pub removable : Removable x (tree l)
  pub spent : l.serial + 1 ≤ max_serial

-- `Layout::without`: and the places that go are these
pub record Leaving (l : Layout) (x : ℕ) (g : Going) : Type 0 where
  pub places : places g ≡ going_of l.nodes x l.held
  pub room : g.count ≤ limit
  pub placed : Placed limit g.count g.order
