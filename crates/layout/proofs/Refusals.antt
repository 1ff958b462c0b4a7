-- A refused call changes nothing: it hands back the layout as it came, answers zero, and leaves a lent buffer as it was. (Of `insert` and `remove` that
-- they answer a refusal only there: Inserted and Gone, `insert-refused` and `remove-refused`; of `tidy`: Tidying, `tidy-refused`.) And what isn't sound is
-- refused with 1, whatever else a call is handed. Assumes nothing.
use mathlib.Core.Path.{◌≡◌, refl}
use mathlib.Core.Bool.{Bool, true, false}
use mathlib.Core.List.{List}
use mathlib.Core.Option.{some}
use Prim.Native.Nat.{ℕ}
use lib.Dec.{eqb}
use lib.ListN.{length}
use Rattle.std.specs.Prelude.{Err}
use Rattle.piece.specs.declared.rotation.Rotation.{Rotation}
use Rattle.piece.specs.declared.parttype.PartType.{PartType}
use Rattle.piece.specs.declared.insertion_blueprint.InsertionShape.{InsertionShape}
use Rattle.piece.specs.declared.settings.Opening.{Opening}
use Rattle.lists.proofs.Scan.{clash}
use Rattle.marks.specs.declared.Mark.{Mark}
use Rattle.marks.specs.declared.Refusal.{Refusal}
use Rattle.marks.specs.declared.Refusal.TheVariants.{NotSound}
use Rattle.layout.specs.declared.layout.Layout.{Layout}
use Rattle.layout.specs.declared.insert.Inserted.{Inserted}
use Rattle.layout.specs.declared.remove.Removed.{Removed}
use Rattle.layout.specs.declared.tidy.Tidied.{Tidied}
use Rattle.layout.specs.Check.{domain_b, sound_b}
use Rattle.layout.specs.Zero.{zero_layout}
use Rattle.layout.specs.Asked.{free_piece_of}
use Rattle.layout.specs.Open.{open_of}
use Rattle.layout.specs.Insert.{insert_no, InsertSays, refused_insert}
use Rattle.layout.specs.Remove.{numbers_left, remove_no, RemoveSays, refused_remove}
use Rattle.layout.specs.Restore.{restore_of, refused_restore}
use Rattle.layout.specs.Tidy.{tidy_no, TidySays, refused_tidy}

-- ---- a refused call

pub refused-insert : (l : Layout) (m : Mark) (p : PartType) (r : Rotation) (s : InsertionShape) (a : Inserted) (e : Refusal)
    → insert_no l m p r s ≡ some e → InsertSays l m p r s a → a ≡ refused_insert l e
unfolding InsertSays
refused-insert l m p r s a e h says = rw h at says

pub refused-remove : (l : Layout) (m : Mark) (room : ℕ) (a : Removed) (e : Refusal)
    → remove_no l m room ≡ some e → RemoveSays l m room a → a ≡ refused_remove l e
unfolding RemoveSays
refused-remove l m room a e h says = rw h at says

-- its buffer
pub refused-numbers : (l : Layout) (m : Mark) (out : List ℕ) (e : Refusal) → remove_no l m (length out) ≡ some e → numbers_left l m out ≡ out
unfolding numbers_left
refused-numbers l m out e h = rw h refl

pub refused-tidy : (l : Layout) (a : Tidied) (e : Refusal) → tidy_no l ≡ some e → TidySays l a → a ≡ refused_tidy l e
unfolding TidySays
refused-tidy l a e h says = rw h at says

pub refused-restore : (l s : Layout) (e : Refusal) → (restore_of l s).outcome ≡ Err e → (restore_of l s).layout ≡ l
unfolding restore_of
refused-restore l s e h = go (sound_b l) (sound_b s) (eqb l.number s.number) refl refl refl
  where
    go : (a b c : Bool) → sound_b l ≡ a → sound_b s ≡ b → eqb l.number s.number ≡ c → (restore_of l s).layout ≡ l
    go true true true x y z = let o = rw (x, y, z) at h in absurd (clash (cc))
    go true true false x y z = rw (x, y, z) refl
    go true false c x y z = rw (x, y) refl
    go false b c x y z = rw x refl

-- an opening: all zero
pub refused-open : (o : Opening) (e : Refusal)
    → (open_of o).outcome ≡ Err e → (open_of o).layout ≡ zero_layout
unfolding open_of
refused-open o e h = go (domain_b o.settings) refl
  where
    go : (b : Bool) → domain_b o.settings ≡ b → (open_of o).layout ≡ zero_layout
    go true x = let z = rw x at h in absurd (clash (cc))
    go false x = rw x refl

-- ---- a layout that isn't sound

module _ (l : Layout) (unsound : sound_b l ≡ false) where
  pub insert-unsound : (m : Mark) (p : PartType) (r : Rotation) (s : InsertionShape) (a : Inserted) → InsertSays l m p r s a → a ≡ refused_insert l NotSound
  unfolding insert_no free_piece_of
  insert-unsound m p r s a says = refused-insert l m p r s a NotSound (rw unsound refl) says

  pub remove-unsound : (m : Mark) (room : ℕ) (a : Removed) → RemoveSays l m room a → a ≡ refused_remove l NotSound
  unfolding remove_no
  remove-unsound m room a says = refused-remove l m room a NotSound (rw unsound refl) says

  pub numbers-unsound : (m : Mark) (out : List ℕ) → numbers_left l m out ≡ out
  unfolding remove_no
  numbers-unsound m out = refused-numbers l m out NotSound (rw unsound refl)

  pub tidy-unsound : (a : Tidied) → TidySays l a → a ≡ refused_tidy l NotSound
  unfolding tidy_no
  tidy-unsound a says = refused-tidy l a NotSound (rw unsound refl) says

  -- `restore` tests the snapshot too, and answers the same whichever of the two isn't sound
  pub restore-unsound : (k : Layout) → restore_of l k ≡ refused_restore l NotSound
  unfolding restore_of
  restore-unsound k = rw unsound refl

  pub snapshot-unsound : (k : Layout) → restore_of k l ≡ refused_restore k NotSound
  unfolding restore_of
  snapshot-unsound k = go (sound_b k) refl
    where
      go : (b : Bool) → sound_b k ≡ b → restore_of k l ≡ refused_restore k NotSound
      go true e = rw (e, unsound) refl
      go false e = rw e refl
