-- Demand 1: "Every call .. examines the layout it is handed first." What each public call answers to a layout that isn't sound, whatever else it is
-- handed: refusal 1, the layout as it came, zero in other fields, and a lent buffer as it was. One field to a call, one for the ops of the counter, and one for the questions of the desk.
-- (`Layout::sound` is the check itself.)
use Rattle.std.specs.Prelude.{◌≡◌, List, ℕ, Err}
use Rattle.std.proofs.Math.Option.{some}
use Rattle.piece.specs.declared.rotation.Rotation.{Rotation}
use Rattle.piece.specs.declared.parttype.PartType.{PartType}
use Rattle.piece.specs.declared.insertion_blueprint.InsertionShape.{InsertionShape}
use Rattle.marks.specs.declared.Mark.{Mark}
use Rattle.marks.specs.declared.Refusal.TheVariants.{NotSound}
use Rattle.layout.specs.declared.layout.Layout.{Layout}
use Rattle.layout.specs.declared.insert.Inserted.{Inserted}
use Rattle.layout.specs.declared.remove.Removed.{Removed}
use Rattle.layout.specs.declared.tidy.Tidied.{Tidied}
use Rattle.layout.specs.Insert.{InsertSays, refused_insert}
use Rattle.layout.specs.Remove.{RemoveSays, numbers_left, refused_remove}
use Rattle.layout.specs.Tidy.{TidySays, refused_tidy}
use Rattle.layout.specs.Restore.{restore_of, refused_restore}
use Rattle.layout.specs.Asked.{free_piece_of}
use Rattle.questions.specs.Answers.{used_area_of, free_area_of, eaten_area_of, nodes_held_of, sheet_usage_of, tree_usage_of, is_empty_of, free_mark_of, removable_mark_of}
use Rattle.questions.specs.Answers.{offers_call}
use Rattle.questions.specs.Light.{light_of}
use Rattle.questions.specs.Written.{answer_to, held_numbers, left_in_buffer, snapshot_bytes}
use Rattle.saw.specs.Written.{amount_bytes, saw_bytes}
use Rattle.questions.specs.WhyNot.{why_call}
use Rattle.frames.specs.declared.Request.{Request}
use Rattle.frames.specs.declared.Request.TheVariants.{Restore}
use Rattle.frames.specs.Answers.{Answer, refused}
use Rattle.session.specs.declared.Session.{Session}
use Rattle.session.specs.Session.{Answers, op_of, reply}
use Rattle.session.specs.Replies.{both}
use Rattle.desk_frames.specs.declared.Question.{Question}
use Rattle.desk_frames.specs.Answers.{found_in, refused_with}

-- of a call that would write this into a lent buffer
pub record NothingWritten (l : Layout) (what : List ℕ) : Type 0 where
  pub answer : (room : ℕ) → answer_to l what room ≡ Err NotSound
  pub buffer : (out : List ℕ) → left_in_buffer l what out ≡ out

pub record Examined (l : Layout) : Type 0 where
  -- crate layout; `restore` examines both that it is handed, and `free_piece` is the head of every call on a free piece
  pub insert : (m : Mark) (p : PartType) (r : Rotation) (s : InsertionShape) (a : Inserted) → InsertSays l m p r s a → a ≡ refused_insert l NotSound
  pub remove : (m : Mark) (room : ℕ) (a : Removed) → RemoveSays l m room a → a ≡ refused_remove l NotSound
  pub remove_buffer : (m : Mark) (out : List ℕ) → numbers_left l m out ≡ out
  pub tidy : (a : Tidied) → TidySays l a → a ≡ refused_tidy l NotSound
  pub restore : (snapshot : Layout) → restore_of l snapshot ≡ refused_restore l NotSound
  pub restore_to : (k : Layout) → restore_of k l ≡ refused_restore k NotSound
  pub free_piece : (m : Mark) (p : PartType) → free_piece_of l m p ≡ Err NotSound
  -- crate questions
  pub used_area : used_area_of l ≡ Err NotSound
  pub free_area : free_area_of l ≡ Err NotSound
  pub eaten_area : eaten_area_of l ≡ Err NotSound
  pub nodes_held : nodes_held_of l ≡ Err NotSound
  pub sheet_usage : sheet_usage_of l ≡ Err NotSound
  pub tree_usage : tree_usage_of l ≡ Err NotSound
  pub is_empty : is_empty_of l ≡ Err NotSound
  pub free_mark : (position : ℕ) → free_mark_of l position ≡ Err NotSound
  pub removable_mark : (position : ℕ) → removable_mark_of l position ≡ Err NotSound
  pub room_light : (p : PartType) → light_of l p ≡ Err NotSound
  pub offers : (m : Mark) (p : PartType) → offers_call l m p ≡ Err NotSound
  pub snapshot : NothingWritten l (snapshot_bytes l)
  pub part_numbers : NothingWritten l (held_numbers l)
  pub why_not : (m : Mark) (p : PartType) → why_call l m p ≡ Err NotSound
  -- crate saw
  pub cuts : NothingWritten l (saw_bytes l)
  pub amounts : NothingWritten l (amount_bytes l)
  -- crate session: the counter's state stays, and the answer is the op's refusal; `restore` examines the kept layout too
  pub counter : (kept : Layout) (q : Request) (op : ℕ) → op_of q ≡ some op → (t : Session) (a : Answer) → Answers (both l kept) q t a
      → reply t a ≡ reply (both l kept) (refused op NotSound)
  pub counter_restore_to : (k : Layout) (t : Session) (a : Answer) → Answers (both k l) Restore t a → reply t a ≡ reply (both k l) (refused 6 NotSound)
  -- crate desk_frames: each question of the desk
  pub desk : (q : Question) → found_in l q ≡ refused_with NotSound
