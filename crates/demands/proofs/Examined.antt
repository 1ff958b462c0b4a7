-- Demand 1, every public call examines the layout that it is handed first (specs/Examined.antt has the list). Rests on `layout`'s and `session`'s
-- refusals. Assumes nothing.
use mathlib.Core.Path.{◌≡◌, refl}
use mathlib.Core.Bool.{false}
use mathlib.Core.List.{List}
use Prim.Native.Nat.{ℕ}
use Rattle.layout.specs.declared.layout.Layout.{Layout}
use Rattle.layout.specs.Check.{sound_b}
use Rattle.layout.specs.Asked.{free_piece_of}
use Rattle.layout.specs.Zero.{zero_layout}
use Rattle.layout.proofs.Exactly.{zero-refused}
use Rattle.layout.proofs.Refusals.{insert-unsound, remove-unsound, numbers-unsound, restore-unsound, snapshot-unsound}
use Rattle.layout.proofs.Refusals.{tidy-unsound}
use Rattle.questions.specs.Answers.{used_area_of, free_area_of, eaten_area_of, nodes_held_of, sheet_usage_of, tree_usage_of, is_empty_of, free_mark_of, removable_mark_of, offers_call}
use Rattle.questions.specs.Light.{light_of}
use Rattle.questions.specs.Written.{held_numbers, snapshot_bytes}
use Rattle.saw.specs.Written.{amount_bytes, saw_bytes}
use Rattle.questions.specs.WhyNot.{why_call}
use Rattle.session.specs.Replies.{both}
use Rattle.marks.specs.declared.Refusal.TheVariants.{NotSound}
use Rattle.desk_frames.specs.declared.Question.{Question}
use Rattle.desk_frames.specs.declared.Question.TheVariants.{WhyNot, RoomLight, FreePiece, RemovablePiece, PartNumbers, Figures, Snapshot, Cuts, EatenArea, Amounts}
use Rattle.desk_frames.specs.Answers.{found_in, refused_with}
use Rattle.session.proofs.Refused.{unsound-refused, unsound-kept-refused}
use Rattle.demands.specs.Examined.{Examined, NothingWritten}

module _ (l : Layout) (unsound : sound_b l ≡ false) where
  -- each question of the desk
  no-question : (q : Question) → found_in l q ≡ refused_with NotSound
  unfolding found_in why_call free_piece_of light_of free_mark_of removable_mark_of eaten_area_of
  no-question (WhyNot mark part) = rw unsound refl
  no-question (RoomLight part) = rw unsound refl
  no-question (FreePiece position) = rw unsound refl
  no-question (RemovablePiece position) = rw unsound refl
  no-question PartNumbers = rw unsound refl
  no-question Figures = rw unsound refl
  no-question Snapshot = rw unsound refl
  no-question Cuts = rw unsound refl
  no-question EatenArea = rw unsound refl
  no-question Amounts = rw unsound refl

  nothing_written : (what : List ℕ) → NothingWritten l what
  nothing_written what = record { answer = λ room. rw unsound refl; buffer = λ out. rw unsound refl }

  pub examined-first : Examined l
  unfolding used_area_of free_area_of eaten_area_of nodes_held_of sheet_usage_of tree_usage_of is_empty_of free_mark_of removable_mark_of light_of offers_call why_call free_piece_of
  examined-first =
      record {
        insert = insert-unsound l unsound;
        remove = remove-unsound l unsound;
        remove_buffer = numbers-unsound l unsound;
        tidy = tidy-unsound l unsound;
        restore = restore-unsound l unsound;
        restore_to = snapshot-unsound l unsound;
        free_piece = λ m p. rw unsound refl;
        used_area = rw unsound refl;
        free_area = rw unsound refl;
        eaten_area = rw unsound refl;
        nodes_held = rw unsound refl;
        sheet_usage = rw unsound refl;
        tree_usage = rw unsound refl;
        is_empty = rw unsound refl;
        free_mark = λ k. rw unsound refl;
        removable_mark = λ k. rw unsound refl;
        room_light = λ p. rw unsound refl;
        offers = λ m p. rw unsound refl;
        snapshot = nothing_written (snapshot_bytes l);
        part_numbers = nothing_written (held_numbers l);
        cuts = nothing_written (saw_bytes l);
        amounts = nothing_written (amount_bytes l);
        why_not = λ m p. rw unsound refl;
        counter = λ kept q op looks t a h. unsound-refused (both l kept) q op looks unsound t a h;
        counter_restore_to = λ k t a h. unsound-kept-refused (both k l) unsound t a h;
        desk = no-question;
      }

-- "Layout and snapshot start all zero", which isn't sound: before an opening each call answers 1
pub zero-examined : Examined zero_layout
zero-examined = examined-first zero_layout zero-refused
