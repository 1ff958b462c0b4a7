-- The contract of each call determines its answer, and the lent buffer where there is one: two answers that meet it are the same. (Of the calls that
-- only read a layout crate `questions` says so.)
use mathlib.Core.Path.{◌≡◌, sym, ◌∙◌}
use mathlib.Core.Bool.{Bool}
use mathlib.Core.List.{List}
use mathlib.Core.Option.{Option, none, some}
use Prim.Native.Nat.{ℕ}
use Rattle.std.specs.Prelude.{Result}
use Rattle.piece.specs.declared.settings.Opening.{Opening}
use Rattle.piece.specs.declared.rotation.Rotation.{Rotation}
use Rattle.piece.specs.declared.parttype.PartType.{PartType}
use Rattle.piece.specs.declared.insertion_blueprint.InsertionShape.{InsertionShape}
use Rattle.tree.specs.Booking.{Booking}
use Rattle.marks.specs.declared.Mark.{Mark}
use Rattle.marks.specs.declared.Refusal.{Refusal}
use Rattle.layout.specs.declared.layout.Layout.{Layout}
use Rattle.layout.specs.declared.open.Opened.{Opened}
use Rattle.piece.specs.declared.node.Datum.{Datum}
use Rattle.layout.specs.declared.restore.Restored.{Restored}
use Rattle.layout.specs.declared.insert.Inserted.{Inserted}
use Rattle.layout.specs.declared.remove.Removed.{Removed}
use Rattle.layout.specs.declared.tidy.Tidied.{Tidied}
use Rattle.layout.specs.Check.{sound_b}
use Rattle.layout.specs.Zero.{zero_layout}
use Rattle.layout.specs.Open.{open_of}
use Rattle.layout.specs.Restore.{restore_of}
use Rattle.layout.specs.Asked.{free_piece_of}
use Rattle.layout.specs.Insert.{InsertSays, booking_for, insert_is, insert_no}
use Rattle.layout.specs.Remove.{RemoveSays, numbers_left, remove_is, remove_no}
use Rattle.layout.specs.Tidy.{TidySays, tidy_is, tidy_no}
use Rattle.layout.proofs.Changed.{next-is-one}
use Rattle.layout.proofs.Tidying.{tidies-once}

-- what is the same as one thing is the same
pub only : {A : Type 0} {x : A} (r s : A) → r ≡ x → s ≡ x → r ≡ s
only r s p q = p ∙ sym q

module _ (l : Layout) where
  pub sound-is-one : (r s : Bool) → r ≡ sound_b l → s ≡ sound_b l → r ≡ s
  sound-is-one = only

  pub free-piece-is-one : (m : Mark) (p : PartType) (r s : Result Datum Refusal) → r ≡ free_piece_of l m p → s ≡ free_piece_of l m p → r ≡ s
  free-piece-is-one m p = only

pub open-is-one : (o : Opening) (r s : Opened)
    → r ≡ open_of o → s ≡ open_of o → r ≡ s
open-is-one o = only

pub restore-is-one : (l m : Layout) (r s : Restored) → r ≡ restore_of l m → s ≡ restore_of l m → r ≡ s
restore-is-one l m = only

pub zero-is-one : (r s : Layout) → r ≡ zero_layout → s ≡ zero_layout → r ≡ s
zero-is-one = only

-- ---- the calls that change a layout

same-inserted : (a b : Inserted) → a.outcome ≡ b.outcome → a.marks ≡ b.marks → a.layout ≡ b.layout → a ≡ b
same-inserted a b o m l = λ i. record { outcome = o i; marks = m i; layout = l i }

inserted-is-one : (o : Option Refusal) (l : Layout) (x : ℕ) (k : Booking) (a b : Inserted) → insert_is o l x k a → insert_is o l x k b → a ≡ b
inserted-is-one (some e) l x k a b p q = only a b p q
inserted-is-one none l x k a b p q =
    same-inserted a b (only a.outcome b.outcome p.outcome q.outcome) (only a.marks b.marks p.marks q.marks)
    (next-is-one l _ _ _ a.layout b.layout p.next q.next)

pub insert-is-one : (l : Layout) (m : Mark) (p : PartType) (r : Rotation) (s : InsertionShape) (a b : Inserted)
    → InsertSays l m p r s a → InsertSays l m p r s b → a ≡ b
unfolding InsertSays
insert-is-one l m p r s a b = inserted-is-one (insert_no l m p r s) l m.place (booking_for l m.place p r s) a b

-- accepted, each field is said; the layout is the one next layout
removed-is-one : (o : Option Refusal) (l : Layout) (x : ℕ) (r s : Removed) → remove_is o l x r → remove_is o l x s → r ≡ s
removed-is-one (some e) l x r s a b = only r s a b
removed-is-one none l x r s a b =
    let outcome = only r.outcome s.outcome a.outcome b.outcome in
    let free = only r.free s.free a.free b.free in
    let count = only r.count s.count a.count b.count in
    let layout = next-is-one l _ _ _ r.layout s.layout a.next b.next in
    λ i. record { outcome = outcome i; free = free i; count = count i; layout = layout i }

module _ (l : Layout) (m : Mark) where
  pub remove-is-one : (room : ℕ) (r s : Removed) → RemoveSays l m room r → RemoveSays l m room s → r ≡ s
  unfolding RemoveSays
  remove-is-one room = removed-is-one (remove_no l m room) l m.place

  pub remove-leaves-one : (out a b : List ℕ) → a ≡ numbers_left l m out → b ≡ numbers_left l m out → a ≡ b
  remove-leaves-one out = only

-- accepted, the steps are the same, each the lowest in its turn
tidied-is-one : (o : Option Refusal) (l : Layout) (a b : Tidied) → tidy_is o l a → tidy_is o l b → a ≡ b
tidied-is-one (some e) l a b p q = only a b p q
tidied-is-one none l a b p q =
    let outcome = only a.outcome b.outcome p.outcome q.outcome in
    let same = tidies-once p.tidies q.tidies in
    λ i. record { outcome = outcome i; count = same.0 i; layout = same.1 i }

pub tidy-is-one : (l : Layout) (a b : Tidied) → TidySays l a → TidySays l b → a ≡ b
unfolding TidySays
tidy-is-one l = tidied-is-one (tidy_no l) l
