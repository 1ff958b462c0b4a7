-- Demand 3 is said over the calls: here is what an accepted call is. A call is given by its contract alone, so that what is
-- proved holds of every `insert`, `remove`, `tidy`, `restore` and `open` that meets its contract.
use Rattle.std.specs.Prelude.{◌≡◌, ℕ, ◌+◌, Ok}
use Rattle.piece.specs.declared.size.Size.{Size}
use Rattle.piece.specs.declared.rotation.Rotation.{Rotation}
use Rattle.piece.specs.declared.parttype.PartType.{PartType}
use Rattle.piece.specs.declared.insertion_blueprint.InsertionShape.{InsertionShape}
use Rattle.piece.specs.declared.settings.Opening.{Opening}
use Rattle.piece.specs.Sides.{area}
use Rattle.tree.specs.Tidy.{Untidy}
use Rattle.tree.specs.Figures.{part_area, free_area, eaten_area}
use Rattle.marks.specs.declared.Mark.{Mark}
use Rattle.layout.specs.declared.layout.Layout.{Layout}
use Rattle.layout.specs.declared.open.Opened.{Opened}
use Rattle.layout.specs.declared.insert.Inserted.{Inserted}
use Rattle.layout.specs.declared.remove.Removed.{Removed}
use Rattle.layout.specs.declared.tidy.Tidied.{Tidied}
use Rattle.layout.specs.declared.restore.Restored.{Restored}
use Rattle.layout.specs.Check.{tree}
use Rattle.layout.specs.Open.{open_of}
use Rattle.layout.specs.Insert.{InsertSays}
use Rattle.layout.specs.Remove.{RemoveSays}
use Rattle.layout.specs.Tidy.{TidySays}
use Rattle.layout.specs.Restore.{restore_of}
use Rattle.questions.specs.Answers.{used_area_of, free_area_of, eaten_area_of}
use Rattle.questions.specs.Written.{snapshot_bytes}

-- `insert` of the part p, in rotation r and shape s, into the piece that m names, on the layout l, answers a and is not refused
pub record InsertAccepted (l : Layout) (m : Mark) (p : PartType) (r : Rotation) (s : InsertionShape) (a : Inserted) : Type 0 where
  pub says : InsertSays l m p r s a
  pub done : a.outcome ≡ Ok tt

-- `remove` of the piece that m names, with a lent buffer of this room
pub record RemoveAccepted (l : Layout) (m : Mark) (room : ℕ) (a : Removed) : Type 0 where
  pub says : RemoveSays l m room a
  pub done : a.outcome ≡ Ok tt

-- `tidy`, on the layout l
pub record TidyAccepted (l : Layout) (a : Tidied) : Type 0 where
  pub says : TidySays l a
  pub done : a.outcome ≡ Ok tt

-- `restore` of the snapshot k, on the layout l
pub record RestoreAccepted (l k : Layout) (a : Restored) : Type 0 where
  pub says : a ≡ restore_of l k
  pub done : a.outcome ≡ Ok tt

-- `open` of a sheet; m is the mark of its free piece
pub record OpenAccepted (o : Opening) (m : Mark) (a : Opened) : Type 0 where
  pub says : a ≡ open_of o
  pub done : a.outcome ≡ Ok m

-- untidy structures are taken out by `remove`, one after the other, in any order: of each that is untidy then any may be next
pub data TakenOut : Layout → Layout → Type 0 where
  none : {l : Layout} → TakenOut l l
  next : {l n : Layout} (m : Mark) (room : ℕ) (a : Removed) → Untidy m.place (tree l) → RemoveAccepted l m room a → TakenOut a.layout n → TakenOut l n

-- "Same tree means that the tree snapshots (below) agree in every byte": the bytes that the call `snapshot` hands out
abbrev pub SameTree : Layout → Layout → Type 0
SameTree l k = snapshot_bytes l ≡ snapshot_bytes k

-- "Part area plus free area is the sheet", and with a blade (document 02, No. 4) "part area, free area and eaten area make the sheet": no call refuses, what
-- they answer adds up, and each is the sum over its pieces of the tree
pub record AreasCover (l : Layout) (sheet : Size) : Type 0 where
  pub used : ℕ
  pub free : ℕ
  pub eaten : ℕ
  pub used_answer : used_area_of l ≡ Ok used
  pub free_answer : free_area_of l ≡ Ok free
  pub eaten_answer : eaten_area_of l ≡ Ok eaten
  pub cover : used + free + eaten ≡ area sheet
  pub parts : used ≡ part_area (tree l)
  pub frees : free ≡ free_area (tree l)
  pub strips : eaten ≡ eaten_area (tree l)
