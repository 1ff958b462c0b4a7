-- From what a call answers to what its question finds, and to the line that tells it. Rests on what `questions` and `saw` say of a lent buffer.
use mathlib.Core.Path.{◌≡◌, refl, sym, ap, ◌∙◌}
use mathlib.Core.List.{List, [], ◌∷◌, ◌++◌}
use mathlib.Core.Bool.{Bool, true, false, cond}
use Prim.Native.Nat.{ℕ, ◌*◌, ◌≤◌}
use native.Mathlib.Omega.{arith}
use lib.Dec.{leb}
use lib.ListN.{length, take, length-replicate}
use lib.Seq.{sets, length-sets}
use borrow.Author.Tests.{leb-true, le-leb}
use Rattle.std.specs.Prelude.{Result, Ok, Err}
use Rattle.lists.specs.Lists.{zeros}
use Rattle.tree.specs.Tree.{count}
use Rattle.marks.specs.declared.Refusal.{Refusal}
use Rattle.marks.specs.declared.Refusal.TheVariants.{NotSound, BufferTooShort}
use Rattle.layout.specs.declared.layout.Layout.{Layout}
use Rattle.layout.specs.Check.{limit, tree, sound_b}
use Rattle.layout.specs.SoundLayout.{Sized}
use Rattle.layout.proofs.Exactly.{sound-says}
use Rattle.questions.specs.declared.why_not.Reasons.{Reasons}
use Rattle.questions.specs.Reasons.{reason_no}
use Rattle.questions.specs.Written.{answer_to, left_in_buffer, snapshot_bytes, held_numbers}
use Rattle.questions.proofs.Lent.{numbers-room}
use Rattle.questions.proofs.Snapshots.{snapshot-length}
use Rattle.saw.specs.Written.{amount_bytes, saw_bytes}
use Rattle.saw.proofs.Copied.{take-stored}
use Rattle.saw.proofs.Layouts.{counted, list-room, amounts-room}
use Rattle.frames.specs.Answers.{content_of, refused}
use Rattle.frames.specs.Bytes.{two}
use Rattle.frames.specs.Writing.{line_for, LinePut}
use Rattle.desk_frames.specs.declared.Question.{Question}
use Rattle.desk_frames.specs.Answers.{Found, found, refused_with, if_sound, reasons_found, found_in, question_op, content_for, Tells}

-- ---- the line of what is found, and of a refusal

module _ (l : Layout) (q : Question) {before after : List ℕ} {n : ℕ} where
  pub told : {f : Found} → f ≡ found_in l q → LinePut before (content_for (question_op q) f) after n → Tells l q before after n
  told e y = rw e at y

  pub refusal-told : {e : Refusal} → refused_with e ≡ found_in l q → LinePut before (content_of (refused (question_op q) e)) after n
      → Tells l q before after n
  unfolding content_of
  refusal-told e y = told e y

-- a line leaves a buffer as long as it was
pub line-room : {before content after : List ℕ} {n : ℕ} → LinePut before content after n → length after ≡ length before
line-room {before} {content} {after} {n} y = ap length y.line ∙ length-sets before 0 (line_for content)

-- ---- the reasons

pub reasons-found : (w : Reasons) {x y : ℕ} → x ≡ reason_no w.default → y ≡ reason_no w.rotated → found (x ∷ y ∷ []) ≡ reasons_found (Ok w)
reasons-found w f g = rw (f, g) refl

-- ---- where only refusal 1 can be given

module _ (l : Layout) where
  pub sound-found : {x bs : List ℕ} → sound_b l ≡ true → x ≡ bs → found x ≡ if_sound l bs
  sound-found h e = rw (h, e) refl

  pub unsound-found : (bs : List ℕ) {e : Refusal} → sound_b l ≡ false → e ≡ NotSound → refused_with e ≡ if_sound l bs
  unsound-found bs h e = rw (h, e) refl

-- how many, and what is counted
pub counted-bytes : {k m : ℕ} {x y : List ℕ} → k ≡ m → x ≡ y → two k ++ x ≡ two m ++ y
counted-bytes e f = rw (e, f) refl

-- a call that is to write `what` into a buffer of zeros
module _ (l : Layout) (what : List ℕ) (room : ℕ) (after : List ℕ) {r : Result ℕ Refusal}
    (leaves : after ≡ left_in_buffer l what (zeros room)) (answers : r ≡ answer_to l what (length (zeros room))) where
  -- its count is that of what is written, which then stands first
  pub lent-count : {n : ℕ} → r ≡ Ok n → (sound_b l ≡ true) × (n ≡ length what) × (n ≤ length after) × (take n after ≡ what)
  lent-count {n} h =
      let before = zeros room in
      let w =
      counted (sound_b l) (leb (length what) (length before)) (length what) n before (sets before 0 what) after (sym h ∙ answers) leaves in
      let fits = leb-true (length what) (length before) w.1 in
      (w.0, w.2, omega (arith, w.2, ap length w.3, length-sets before 0 what), rw (w.3, w.2) (take-stored what before (length what) refl fits))

  -- with room for all, it is refused only where the layout isn't sound
  pub lent-refused : (sound_b l ≡ true → length what ≤ room) → {e : Refusal} → r ≡ Err e → (sound_b l ≡ false) × (e ≡ NotSound)
  lent-refused enough {e} h = go (sound_b l) enough (sym h ∙ answers)
    where
      go : (b : Bool) → (b ≡ true → length what ≤ room)
          → Err e ≡ cond b (cond (leb (length what) (length (zeros room))) (Ok (length what)) (Err BufferTooShort)) (Err NotSound)
          → (b ≡ false) × (e ≡ NotSound)
      go true fits f =
          let long : length what ≤ length (zeros room) = omega (arith, fits refl, length-replicate {A = ℕ} room 0) in
          let g : Err e ≡ Ok (length what) = rw (le-leb (length what) (length (zeros room)) long) at f in
          let z : ◌≡◌ {A = ℕ} 0 1 = cc in
          absurd (omega arith)
      go false fits f = (refl, cc)

-- the four buffers have room for all that a sound layout can have
module _ (l : Layout) (sized : Sized l) (ok : sound_b l ≡ true) where
  pub numbers_fit : length (held_numbers l) ≤ limit
  numbers_fit = numbers-room l (sound-says l sized ok)

  pub snapshot-count : (length (snapshot_bytes l) ≡ 14 * count (tree l)) × (count (tree l) ≤ limit)
  snapshot-count = let s = sound-says l sized ok in (snapshot-length l s, s.sound.room)

  pub cuts_fit : length (saw_bytes l) ≤ 9 * limit
  cuts_fit = list-room l (sound-says l sized ok)

  pub amounts-fit : length (amount_bytes l) ≤ limit
  amounts-fit = amounts-room l (sound-says l sized ok)
