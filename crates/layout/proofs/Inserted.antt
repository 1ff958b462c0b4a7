-- What an insertion leaves, by its contract: a refused one the layout as it came; an accepted one a sound layout, in which every piece but the free one that it
-- took keeps its place, its serial and all else that it is. Assumes nothing.
use mathlib.Core.Path.{◌≡◌, refl, sym, ap, ◌∙◌}
use mathlib.Core.Option.{Option, none, some}
use Prim.Native.Nat.{ℕ, ◌≤◌}
use Rattle.std.specs.Prelude.{Ok, Err}
use Rattle.piece.specs.declared.rotation.Rotation.{Rotation}
use Rattle.piece.specs.declared.parttype.PartType.{PartType}
use Rattle.piece.specs.declared.node.Datum.{Datum}
use Rattle.piece.specs.declared.insertion_blueprint.InsertionShape.{InsertionShape}
use Rattle.tree.specs.Tree.{At}
use Rattle.tree.specs.Booking.{Booking}
use Rattle.tree.proofs.Laws.UntouchedByBooking.{untouched-by-booking}
use Rattle.sound.proofs.Says.{clash}
use Rattle.marks.specs.declared.Mark.{Mark}
use Rattle.marks.specs.declared.Refusal.{Refusal}
use Rattle.booking.specs.Marks.{block_marks}
use Rattle.booking.proofs.BlockMarks.{block-marks-few}
use Rattle.layout.specs.declared.layout.Layout.{Layout}
use Rattle.layout.specs.declared.insert.Inserted.{Inserted}
use Rattle.layout.specs.Check.{limit, tree}
use Rattle.layout.specs.SoundLayout.{SoundLayout, Sized}
use Rattle.layout.specs.Insert.{InsertDone, InsertSays, booking_for, insert_is, insert_no, piece_at, refused_insert}
use Rattle.layout.proofs.Admitted.{insertable}

-- an answer is Done only where nothing refuses, and a refusal only what refuses
done-is : (o : Option Refusal) (l : Layout) (x : ℕ) (b : Booking) (a : Inserted) → insert_is o l x b a → a.outcome ≡ Ok tt
    → (o ≡ none) × InsertDone l x b a
done-is none l x b a h e = (refl, h)
done-is (some f) l x b a h e =
    let same : Err f ≡ Ok tt = sym (ap (λ (i : Inserted). i.outcome) h) ∙ e in absurd (clash (cc))

refused-is : (o : Option Refusal) (l : Layout) (x : ℕ) (b : Booking) (a : Inserted) → insert_is o l x b a → (e : Refusal)
    → a.outcome ≡ Err e → (o ≡ some e) × (a ≡ refused_insert l e)
refused-is none l x b a h e g =
    let same : (Ok tt) ≡ Err e = sym h.outcome ∙ g in absurd (clash (cc))
refused-is (some f) l x b a h e g =
    let same : Err f ≡ Err e = sym (ap (λ (i : Inserted). i.outcome) h) ∙ g in
    let is : f ≡ e = cc in
    (ap some is, h ∙ ap (refused_insert l) is)

module _ (l : Layout) (m : Mark) (p : PartType) (r : Rotation) (s : InsertionShape) (a : Inserted) (says : InsertSays l m p r s a) where
  -- Done and the next layout go together, and a refusal and the layout as it came
  pub insert-accepted : a.outcome ≡ Ok tt → (insert_no l m p r s ≡ none) × InsertDone l m.place (booking_for l m.place p r s) a
  unfolding InsertSays
  insert-accepted = done-is (insert_no l m p r s) l m.place (booking_for l m.place p r s) a says

  pub insert-refused : (e : Refusal) → a.outcome ≡ Err e → (insert_no l m p r s ≡ some e) × (a ≡ refused_insert l e)
  unfolding InsertSays
  insert-refused = refused-is (insert_no l m p r s) l m.place (booking_for l m.place p r s) a says

  pub refused-as-it-came : (e : Refusal) → a.outcome ≡ Err e → a.layout ≡ l
  refused-as-it-came e h = ap (λ (i : Inserted). i.layout) (insert-refused e h).1

  -- for the crate that keeps the marks
  pub insert-says : a.outcome ≡ Ok tt → a.marks.count ≤ 2
  unfolding block_marks
  insert-says h =
      rw (insert-accepted h).1.marks (block-marks-few l.number (booking_for l m.place p r s) (piece_at l m.place))

  pub inserted-sound : a.outcome ≡ Ok tt → SoundLayout a.layout
  inserted-sound h = (insert-accepted h).1.next.sound

  -- "Node marks stay valid": what is not taken stands where it stood
  pub untouched-by-insertion : Sized l → a.outcome ≡ Ok tt → (i : ℕ) (e : Datum) → At i e (tree l) → (i ≡ m.place → ⊥) → At i e (tree a.layout)
  untouched-by-insertion sized h i e there other =
      let g = insert-accepted h in
      let can = insertable l m p r s sized g.0 in
      rw g.1.next.tree
      (untouched-by-booking limit l.settings (tree l) m.place (piece_at l m.place) (booking_for l m.place p r s) i e
      can.sound.sound can.there can.free there other)
