-- The ways that `remove` can end (specs/Remove.antt): what each test says decides what it is refused with, or that it goes on; and past them all
-- the piece may be taken out. Assumes nothing.
use mathlib.Core.Path.{◌≡◌, refl}
use mathlib.Core.Bool.{Bool, true, false, cond}
use mathlib.Core.List.{List}
use mathlib.Core.Option.{none, some}
use Prim.Native.Nat.{ℕ, ◌+◌, ◌≤◌, ◌<◌}
use lib.Dec.{eqb, leb}
use lib.ListN.{length}
use borrow.Author.Tests.{eqb-false, le-leb, lt-leb, leb-true}
use Rattle.std.specs.Prelude.{Ok, Err}
use Rattle.piece.specs.declared.node.Datum.{Datum}
use Rattle.piece.specs.Kinds.{is_free}
use Rattle.marks.specs.declared.Mark.{Mark}
use Rattle.marks.specs.declared.Refusal.{Refusal}
use Rattle.marks.specs.declared.Refusal.TheVariants.{NotSound, TheTop, FreePiece, SerialsSpent, BufferTooShort}
use Rattle.sound.proofs.Says.{clash}
use Rattle.layout.specs.declared.layout.Layout.{Layout}
use Rattle.layout.specs.declared.remove.Removed.{Removed}
use Rattle.layout.specs.Check.{sound_b, max_serial}
use Rattle.layout.specs.Asked.{sought_of}
use Rattle.layout.specs.SoundLayout.{Sized}
use Rattle.layout.specs.Remove.{RemoveSays, go_no, numbers_left, numbers_out, out_after, refused_remove, remove_is, remove_no, room_no}
use Rattle.layout.specs.Inner.{Takeable}
use Rattle.layout.proofs.Exactly.{sound-says}
use Rattle.layout.proofs.Marks.{sought-names}

-- ---- the buffer

module _ (l : Layout) (x room : ℕ) where
  pub too_short : room < length (numbers_out l x) → room_no l x room ≡ some BufferTooShort
  unfolding room_no
  too_short h = rw (lt-leb (length (numbers_out l x)) room h) refl

  pub long-enough : length (numbers_out l x) ≤ room → room_no l x room ≡ none
  unfolding room_no
  long-enough h = rw (le-leb (length (numbers_out l x)) room h) refl

-- ---- the tests in their order

module _ (l : Layout) (m : Mark) where
  module _ (room : ℕ) where
    pub not_sound : sound_b l ≡ false → remove_no l m room ≡ some NotSound
    unfolding remove_no
    not_sound e = rw e refl

    module _ (checked : sound_b l ≡ true) where
      pub no-mark : {e : Refusal} → sought_of l m ≡ Err e → remove_no l m room ≡ some e
      unfolding remove_no
      no-mark s = rw (checked, s) refl

      pub may-not : {d : Datum} {e : Refusal} → sought_of l m ≡ Ok d → go_no l m.place d ≡ some e → remove_no l m room ≡ some e
      unfolding remove_no
      may-not s g = rw (checked, s, g) refl

      pub may-go : {d : Datum} → sought_of l m ≡ Ok d → go_no l m.place d ≡ none → remove_no l m room ≡ room_no l m.place room
      unfolding remove_no
      may-go s g = rw (checked, s, g) refl

-- ---- what the call leaves: the answer, and the buffer that was `before`

module _ (l : Layout) (m : Mark) (before : List ℕ) where
  pub refused-so : {a : Removed} {e : Refusal} → remove_no l m (length before) ≡ some e → a ≡ refused_remove l e
      → RemoveSays l m (length before) a × (before ≡ numbers_left l m before)
  unfolding RemoveSays numbers_left
  refused-so e h = rw e (h, refl)

  -- the last test is left
  pub taken-so : (a : Removed) {after : List ℕ} → remove_no l m (length before) ≡ room_no l m.place (length before)
      → remove_is (room_no l m.place (length before)) l m.place a
      → after ≡ out_after (room_no l m.place (length before)) (numbers_out l m.place) before
      → RemoveSays l m (length before) a × (after ≡ numbers_left l m before)
  unfolding RemoveSays numbers_left
  taken-so a e h w = rw e (h, w)

-- ---- past the tests

passed : (a b c : Bool)
    → cond a (some TheTop) (cond b (some FreePiece) (cond c none (some SerialsSpent))) ≡ none → (a ≡ false) × (b ≡ false) × (c ≡ true)
passed false false true h = (refl, refl, refl)
passed false false false h = absurd (clash (cc))
passed false true c h = absurd (clash (cc))
passed true b c h = absurd (clash (cc))

pub takeable : (l : Layout) (m : Mark) (d : Datum) → Sized l → sound_b l ≡ true → sought_of l m ≡ Ok d → go_no l m.place d ≡ none
    → Takeable l m.place
unfolding go_no
takeable l m d sized checked s g =
    let sound = sound-says l sized checked in
    let p = passed (eqb m.place 0) (is_free d.kind) (leb (l.serial + 1) max_serial) g in
    record {
      sized = sized;
      sound = sound;
      removable =
          record { piece = d; there = (sought-names l sound m d s).there; solid = p.1; below = eqb-false m.place 0 p.0 };
      spent = leb-true (l.serial + 1) max_serial p.2;
    }
