-- Document 01, "Insertion": what `insert` answers. Refusals 1, 3, 4, 5, 6, 7, 8, 9, in this order, each exactly on its condition; and else what is
-- booked, the marks, and the next layout.
use Rattle.std.specs.Prelude.{◌≡◌, cond, ℕ, ◌+◌, ◌-◌, leb, Result, Ok, Err}
use Rattle.std.proofs.Math.Option.{Option, none, some}
use Rattle.piece.specs.declared.rotation.Rotation.{Rotation}
use Rattle.piece.specs.declared.parttype.PartType.{PartType}
use Rattle.piece.specs.declared.node.Datum.{Datum}
use Rattle.piece.specs.declared.insertion_blueprint.InsertionShape.{InsertionShape}
use Rattle.piece.specs.Insertion.{new_nodes}
use Rattle.piece.specs.Offers.{turned}
use Rattle.tree.specs.Booking.{Booking, block, book}
use Rattle.tree.specs.Steps.{less}
use Rattle.tree.specs.Pieces.{max_serial}
use Rattle.tree.specs.Family.{new_place}
use Rattle.tree.specs.Enrolment.{booked_list}
use Rattle.table.specs.Table.{at}
use Rattle.booking.specs.Marks.{block_marks, zero_marks}
use Rattle.piece.specs.Offered.{offered_b}
use Rattle.marks.specs.declared.Mark.{Mark}
use Rattle.marks.specs.declared.Refusal.{Refusal}
use Rattle.marks.specs.declared.Refusal.TheVariants.{NotOffered, TooManyNodes, SerialsSpent}
use Rattle.layout.specs.declared.layout.Layout.{Layout}
use Rattle.layout.specs.declared.insert.Inserted.{Inserted}
use Rattle.layout.specs.Check.{limit, tree}
use Rattle.layout.specs.Asked.{free_piece_of}
use Rattle.layout.specs.Next.{Next, removables}

-- refusals 7, 8 and 9, of the free piece d that the mark names
unfoldable pub book_no : Layout → Datum → PartType → Rotation → InsertionShape → Option Refusal
book_no l d p r s =
    cond (offered_b d p l.settings r s)
    -- "nodes held, less one, plus new ones, exceed 255"
    (cond (leb (l.held - 1 + new_nodes s) limit)
    -- "last serial plus new nodes exceeds 1,000,000"
    (cond (leb (l.serial + new_nodes s) max_serial) none (some SerialsSpent))
    (some TooManyNodes))
    (some NotOffered)

-- after refusals 1, 3, 4, 5 and 6
abbrev pub piece_no : Layout → PartType → Rotation → InsertionShape → Result Datum Refusal → Option Refusal
piece_no l p r s (Err e) = some e
piece_no l p r s (Ok d) = book_no l d p r s

-- what it is refused with
unfoldable pub insert_no : Layout → Mark → PartType → Rotation → InsertionShape → Option Refusal
insert_no l m p r s = piece_no l p r s (free_piece_of l m p)

-- "Refused: number, layout as handed in .., zero in other fields"
abbrev pub refused_insert : Layout → Refusal → Inserted
refused_insert l e = record { outcome = Err e; marks = zero_marks; layout = l }

-- the piece at a place
abbrev pub piece_at : Layout → ℕ → Datum
piece_at l x = (at l.nodes x).datum

-- what is booked at x: "A new node takes the lowest unheld place, after the nodes it replaces were freed"; serials "rise by one per node in creation
-- order"
abbrev pub booking_for : Layout → ℕ → PartType → Rotation → InsertionShape → Booking
booking_for l x p r s =
    record {
      shape = s;
      size = turned r p.size;
      number = p.number;
      blade = l.settings.blade;
      place = new_place limit (less x (tree l));
      serial = l.serial + 1;
    }

-- accepted: "marks of first node and part; count; free marks in creation order", and the next layout
pub record InsertDone (l : Layout) (x : ℕ) (b : Booking) (a : Inserted) : Type 0 where
  pub outcome : a.outcome ≡ Ok tt
  pub marks : a.marks ≡ block_marks l.number (block b (piece_at l x))
  pub next : Next l (book x b (tree l)) (booked_list limit x (piece_at l x) b (tree l) (removables l)) (l.serial + new_nodes b.shape) a.layout

abbrev pub insert_is : Option Refusal → Layout → ℕ → Booking → Inserted → Type 0
insert_is (some e) l x b a = a ≡ refused_insert l e
insert_is none l x b a = InsertDone l x b a

unfoldable pub InsertSays : Layout → Mark → PartType → Rotation → InsertionShape → Inserted → Type 0
InsertSays l m p r s a = insert_is (insert_no l m p r s) l m.place (booking_for l m.place p r s) a
