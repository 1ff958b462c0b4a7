-- Demand 1: the life of one layout, and what a mark names in it. A life is one opening and then any sequence of the public calls, accepted or refused,
-- with any arguments, where restore is given only an earlier state of this life. The states stand newest first. A call that only reads gives
-- no new state.
--
-- A second opening of the same number begins another life: its serials start at 1 again, so that a snapshot kept from the first one would revive
-- its marks. Document 01 speaks of a layout that is opened once, and so do the theorems.
use Rattle.std.specs.Prelude.{◌≡◌, ◌⊎◌, ℕ, take, Ok}
use mathlib.Core.List.{List, [], ◌∷◌, Memᴰ}
use Rattle.piece.specs.declared.rotation.Rotation.{Rotation}
use Rattle.piece.specs.declared.parttype.PartType.{PartType}
use Rattle.piece.specs.declared.insertion_blueprint.InsertionShape.{InsertionShape}
use Rattle.piece.specs.declared.settings.Opening.{Opening}
use Rattle.piece.specs.declared.settings.Settings.{Settings}
use Rattle.tree.specs.Tree.{At}
use Rattle.tree.specs.Family.{parent_of}
use Rattle.marks.specs.declared.Mark.{Mark}
use Rattle.layout.specs.declared.layout.Layout.{Layout}
use Rattle.layout.specs.declared.insert.Inserted.{Inserted}
use Rattle.layout.specs.declared.remove.Removed.{Removed}
use Rattle.layout.specs.declared.tidy.Tidied.{Tidied}
use Rattle.layout.specs.Check.{limit, tree}
use Rattle.layout.specs.SoundLayout.{Sized}
use Rattle.layout.specs.Open.{open_of}
use Rattle.layout.specs.Insert.{InsertSays, piece_at}
use Rattle.layout.specs.Remove.{RemoveSays}
use Rattle.layout.specs.Tidy.{TidySays}
use Rattle.layout.specs.Restore.{restore_of}
use Rattle.questions.specs.Answers.{free_mark_of, removable_mark_of}

-- l is one of the states
abbrev pub OneOf : Layout → List Layout → Type 0
OneOf l [] = ⊥
OneOf l (k ∷ ks) = (l ≡ k) ⊎ OneOf l ks

pub data Life : List Layout → Type 0 where
  opened : (o : Opening) (m : Mark) → (open_of o).outcome ≡ Ok m
      → Life ((open_of o).layout ∷ [])
  inserted : (l : Layout) (ls : List Layout) → Life (l ∷ ls) → (m : Mark) (p : PartType) (r : Rotation) (s : InsertionShape) (a : Inserted)
      → InsertSays l m p r s a → Life (a.layout ∷ l ∷ ls)
  removed : (l : Layout) (ls : List Layout) → Life (l ∷ ls) → (m : Mark) (room : ℕ) (a : Removed) → RemoveSays l m room a
      → Life (a.layout ∷ l ∷ ls)
  tidied : (l : Layout) (ls : List Layout) → Life (l ∷ ls) → (a : Tidied) → TidySays l a → Life (a.layout ∷ l ∷ ls)
  restored : (l : Layout) (ls : List Layout) → Life (l ∷ ls) → (s : Layout) → OneOf s (l ∷ ls) → Life ((restore_of l s).layout ∷ l ∷ ls)

-- the stock sheet that a layout is of: what stays of it as long as it lives
pub record Stock : Type 0 where
  pub number : ℕ
  pub settings : Settings

-- what the life's one opening was asked for
abbrev pub opened_on : {ls : List Layout} → Life ls → Stock
opened_on (opened o m h) = record { number = o.number; settings = o.settings }
opened_on (inserted l ls life m p r s a h) = opened_on life
opened_on (removed l ls life m room a h) = opened_on life
opened_on (tidied l ls life a h) = opened_on life
opened_on (restored l ls life s o) = opened_on life

-- as a layout has it
abbrev pub stock : Layout → Stock
stock l = record { number = l.number; settings = l.settings }

-- the state l came later than k in the life, or is k
abbrev pub Later : Layout → Layout → List Layout → Type 0
Later k l [] = ⊥
Later k l (h ∷ hs) = ((l ≡ h) × OneOf k (h ∷ hs)) ⊎ Later k l hs

-- the mark names a piece of the layout
pub record NamesPiece (l : Layout) (m : Mark) : Type 0 where
  pub number : m.layout ≡ l.number
  pub there : At m.place (piece_at l m.place) (tree l)
  pub serial : (piece_at l m.place).serial ≡ m.serial

-- the piece at a mark is the same in both: the same level, kind, cut, sides and part number, and the same parent piece
pub record SamePiece (k l : Layout) (m : Mark) : Type 0 where
  pub piece : piece_at l m.place ≡ piece_at k m.place
  pub parent : parent_of limit m.place (tree l) ≡ parent_of limit m.place (tree k)
  pub parent_piece : piece_at l (parent_of limit m.place (tree l)) ≡ piece_at k (parent_of limit m.place (tree k))

-- the mark m was answered by a call that gave the state l, or that was asked in it: every way to get a mark. (Sized is what the type of a layout says.)
pub data Given : Layout → Mark → Type 0 where
  by_open : (o : Opening) (m : Mark) → (open_of o).outcome ≡ Ok m
      → Given (open_of o).layout m
  by_insert_first : (l : Layout) (m : Mark) (p : PartType) (r : Rotation) (s : InsertionShape) (a : Inserted) → Sized l → InsertSays l m p r s a
      → a.outcome ≡ Ok tt → Given a.layout a.marks.first
  by_insert_part : (l : Layout) (m : Mark) (p : PartType) (r : Rotation) (s : InsertionShape) (a : Inserted) → Sized l → InsertSays l m p r s a
      → a.outcome ≡ Ok tt → Given a.layout a.marks.part
  by_insert_free : (l : Layout) (m : Mark) (p : PartType) (r : Rotation) (s : InsertionShape) (a : Inserted) → Sized l → InsertSays l m p r s a
      → a.outcome ≡ Ok tt → (k : Mark) → Memᴰ k (take a.marks.count a.marks.frees) → Given a.layout k
  by_remove : (l : Layout) (m : Mark) (room : ℕ) (a : Removed) → Sized l → RemoveSays l m room a → a.outcome ≡ Ok tt → Given a.layout a.free
  by_free_list : (l : Layout) (k : ℕ) (m : Mark) → free_mark_of l k ≡ Ok m → Given l m
  by_removable_list : (l : Layout) (k : ℕ) (m : Mark) → removable_mark_of l k ≡ Ok m → Given l m
