-- Document 01, "Removal": what `remove` answers and leaves in the lent buffer. Refusals 1, 4, 5, 10, 11, 9, 13, in this order, each exactly on its
-- condition; and else the part numbers of the subtree, the mark of the new free piece, and the next layout.
use Rattle.std.specs.Prelude.{◌≡◌, cond, List, ℕ, ◌+◌, eqb, leb, length, Result, Ok, Err}
use Rattle.std.proofs.Math.Option.{Option, none, some}
use Rattle.std.proofs.lemmas.List.Edits.{sets}
use Rattle.piece.specs.declared.node.Datum.{Datum}
use Rattle.piece.specs.Kinds.{is_free}
use Rattle.tree.specs.Removal.{cleared, remove, removed_numbers}
use Rattle.tree.specs.Pieces.{max_serial}
use Rattle.tree.specs.Family.{new_place}
use Rattle.tree.specs.Enrolment.{removed_list}
use Rattle.marks.specs.Marks.{zero_mark}
use Rattle.marks.specs.declared.Mark.{Mark}
use Rattle.marks.specs.declared.Refusal.{Refusal}
use Rattle.marks.specs.declared.Refusal.TheVariants.{NotSound, TheTop, FreePiece, SerialsSpent, BufferTooShort}
use Rattle.layout.specs.declared.layout.Layout.{Layout}
use Rattle.layout.specs.declared.remove.Removed.{Removed}
use Rattle.layout.specs.Check.{limit, tree, sound_b}
use Rattle.layout.specs.Asked.{sought_of}
use Rattle.layout.specs.Refusing.{or_else}
use Rattle.layout.specs.Next.{Next, removables}

-- "Part numbers of the subtree come out in tree order, first child first"
unfoldable pub numbers_out : Layout → ℕ → List ℕ
numbers_out l x = removed_numbers x (tree l)

-- refusals 10, 11 and 9, of the piece d at x that the mark names
unfoldable pub go_no : Layout → ℕ → Datum → Option Refusal
go_no l x d =
    cond (eqb x 0) (some TheTop)
    (cond (is_free d.kind) (some FreePiece) (cond (leb (l.serial + 1) max_serial) none (some SerialsSpent)))

-- refusal 13, of a buffer with this room
unfoldable pub room_no : Layout → ℕ → ℕ → Option Refusal
room_no l x room = cond (leb (length (numbers_out l x)) room) none (some BufferTooShort)

-- after refusals 4 and 5
abbrev pub going_no : Layout → ℕ → ℕ → Result Datum Refusal → Option Refusal
going_no l x room (Err e) = some e
going_no l x room (Ok d) = or_else (go_no l x d) (room_no l x room)

-- what it is refused with
unfoldable pub remove_no : Layout → Mark → ℕ → Option Refusal
remove_no l m room = cond (sound_b l) (going_no l m.place room (sought_of l m)) (some NotSound)

-- "Refused: number, layout as handed in .., zero in other fields"
abbrev pub refused_remove : Layout → Refusal → Removed
refused_remove l e = record { outcome = Err e; free = zero_mark; count = 0; layout = l }

-- the place of the new free piece
abbrev pub place_for : Layout → ℕ → ℕ
place_for l x = new_place limit (cleared x (tree l)) 0

-- accepted: the mark of the new free piece, how many part numbers come out, and the next layout
pub record RemoveDone (l : Layout) (x : ℕ) (a : Removed) : Type 0 where
  pub outcome : a.outcome ≡ Ok tt
  pub free : a.free ≡ record { layout = l.number; place = place_for l x; serial = l.serial + 1 }
  pub count : a.count ≡ length (numbers_out l x)
  pub next : Next l (remove x (place_for l x) (l.serial + 1) (tree l)) (removed_list limit x (tree l) (removables l)) (l.serial + 1) a.layout

abbrev pub remove_is : Option Refusal → Layout → ℕ → Removed → Type 0
remove_is (some e) l x a = a ≡ refused_remove l e
remove_is none l x a = RemoveDone l x a

unfoldable pub RemoveSays : Layout → Mark → ℕ → Removed → Type 0
RemoveSays l m room a = remove_is (remove_no l m room) l m.place a

-- what the buffer then holds: refused, it is untouched
abbrev pub out_after : Option Refusal → List ℕ → List ℕ → List ℕ
out_after (some e) numbers out = out
out_after none numbers out = sets out 0 numbers

unfoldable pub numbers_left : Layout → Mark → List ℕ → List ℕ
numbers_left l m out = out_after (remove_no l m (length out)) (numbers_out l m.place) out
