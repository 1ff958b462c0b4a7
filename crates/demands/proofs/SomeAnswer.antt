-- The contracts of `insert`, `remove` and `tidy` can be met: on every layout, sound or not, with every mark and part there is an answer, so that what is
-- said of each answer is said of one at least. There is no other (UniqueAnswers). `Sized` and the part's number in the domain are what the types say. It
-- rests on layout's laws of a booking that is accepted (Booked), of a removal (TakenOut) and of a tidying (Tidying, `some-tidy`). Assumes nothing.
use mathlib.Core.Path.{◌≡◌, refl, sym}
use mathlib.Core.Option.{Option, none, some}
use Prim.Native.Nat.{ℕ, ◌+◌, ◌-◌, ◌≤◌}
use Rattle.std.specs.Prelude.{Ok}
use Rattle.piece.specs.declared.size.Size.{Size}
use Rattle.piece.specs.declared.rotation.Rotation.{Rotation}
use Rattle.piece.specs.declared.parttype.PartType.{PartType}
use Rattle.piece.specs.declared.insertion_blueprint.InsertionShape.{InsertionShape}
use Rattle.piece.specs.Sides.{area}
use Rattle.piece.specs.Offers.{turned}
use Rattle.piece.specs.Insertion.{new_nodes}
use Rattle.tree.specs.Sound.{max_number}
use Rattle.booking.specs.declared.book.Booked.{Booked}
use Rattle.booking.specs.NewNodes.{those}
use Rattle.booking.specs.Marks.{new_marks}
use Rattle.booking.specs.Book.{booked_nodes}
use Rattle.marks.specs.declared.Mark.{Mark}
use Rattle.marks.specs.declared.Refusal.{Refusal}
use Rattle.layout.specs.declared.layout.Layout.{Layout}
use Rattle.layout.specs.declared.insert.Inserted.{Inserted}
use Rattle.layout.specs.declared.remove.Removed.{Removed}
use Rattle.layout.specs.SoundLayout.{Sized}
use Rattle.layout.specs.Parts.{nodes_of, with_nodes}
use Rattle.layout.specs.Insert.{InsertDone, InsertSays, booking_for, insert_no, refused_insert}
use Rattle.layout.specs.Inner.{Insertable}
use Rattle.layout.specs.Remove.{RemoveSays, refused_remove, remove_no}
use Rattle.layout.proofs.Admitted.{done-says, insertable, refused_says}
use Rattle.layout.proofs.Booked.{insert-done}
use Rattle.layout.proofs.Gone.{may-take}
use Rattle.layout.proofs.TakenOut.{some-removed}
pub use Rattle.layout.proofs.Tidying.{some-tidy}

-- ---- `insert`

module _ (l : Layout) (m : Mark) (p : PartType) (r : Rotation) (s : InsertionShape) where
  abbrev size : Size
  size = turned r p.size

  -- what the steps of a booking make
  made : Booked
  made = booked_nodes (nodes_of l) m.place s size p.number l.settings.blade l.serial

  answer : Inserted
  answer =
      record {
        outcome = Ok tt;
        marks = new_marks l.number (those made.new);
        layout = with_nodes l made.nodes (l.held - 1 + new_nodes s) (l.used + area size) (l.serial + new_nodes s);
      }

  pub some-insert : Sized l → p.number ≤ max_number → (a : Inserted) × InsertSays l m p r s a
  unfolding made answer
  some-insert sized numbered = go (insert_no l m p r s) refl
    where
      done : Insertable l m.place p r s → InsertDone l m.place (booking_for l m.place p r s) answer
      done can = insert-done l m.place p r s can numbered refl refl refl refl refl refl refl

      go : (o : Option Refusal) → insert_no l m p r s ≡ o → (a : Inserted) × InsertSays l m p r s a
      go (some e) h = (refused_insert l e, refused_says l m p r s (refused_insert l e) e (sym h) refl)
      go none h = (answer, done-says l m p r s answer (sym h) (done (insertable l m p r s sized h)))

-- ---- `remove`

pub some-remove : (l : Layout) (m : Mark) (room : ℕ) → Sized l → (a : Removed) × RemoveSays l m room a
unfolding RemoveSays
some-remove l m room sized = go (remove_no l m room) refl
  where
    go : (o : Option Refusal) → remove_no l m room ≡ o → (a : Removed) × RemoveSays l m room a
    go (some e) h = (refused_remove l e, rw h refl)
    go none h = let z = some-removed l m.place (may-take l m room sized h) in (z.0, rw h z.1)
