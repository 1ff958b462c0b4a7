-- Document 01, "Insertion": a block takes the place of a free piece.
use Rattle.std.specs.Prelude.{cond, ℕ, ◌+◌}
use Rattle.piece.specs.declared.orientation.Orientation.{Orientation}
use Rattle.piece.specs.declared.size.Size.{Size}
use Rattle.piece.specs.declared.node.Datum.{Datum}
use Rattle.piece.specs.declared.insertion_blueprint.InsertionShape.{InsertionShape}
use Rattle.piece.specs.Sides.{other}
use Rattle.piece.specs.Row.{Row, nil, grow}
use Rattle.piece.specs.Insertion.{Made, block_of}
use Rattle.piece.specs.Kinds.{is_part}
use Rattle.tree.specs.Tree.{Tree, after, change}

-- What is booked: a shape; the part's sides in its rotation, and its number; the width of the blade; and the marks that the new nodes get: the place of each, by its
-- place in the order of creation, and the serial of the first, from which "they rise by one per node in creation order".
pub record Booking : Type 0 where
  pub shape : InsertionShape
  pub size : Size
  pub number : ℕ
  pub blade : ℕ
  pub place : ℕ → ℕ
  pub serial : ℕ

-- the node of a block at this level and with this cut
abbrev pub planted_datum : Booking → ℕ → ℕ → Orientation → Made → Datum
planted_datum b i level c m =
    record {
      serial = b.serial + i;
      size = m.size;
      number = cond (is_part m.kind) b.number 0;
      level = level;
      kind = m.kind;
      cut = c;
      eaten = m.eaten;
    }

-- a block as pieces of the tree, its first row at this level and with this cut
abbrev pub planted : Booking → ℕ → Orientation → Row Made → Tree
planted b level c nil = nil
planted b level c (grow i m k r) =
    grow (b.place i) (planted_datum b i level c m) (planted b (level + 1) (other c) k) (planted b level c r)

-- the block that takes the place of the free piece d
unfoldable pub block : Booking → Datum → Tree
block b d = planted b d.level d.cut (block_of b.shape b.blade d.cut d.size b.size)

-- "The free piece W x H goes"; "these nodes are created in order, at the end of their parent's children", where the free piece stood, since it
-- is last
abbrev pub booked_row : Booking → Datum → Tree → Tree
booked_row b d r = after (block b d) r

abbrev pub book : ℕ → Booking → Tree → Tree
book x b t = change x (booked_row b) t
