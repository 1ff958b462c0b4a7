-- Demand 3: "Part area plus free area is the sheet, throughout", and with a blade part area, free area and eaten area. On every sound layout; and so after an
-- opening, after every `insert`, `remove` and `tidy` on a sound layout, accepted or refused, and after a `restore`. It rests on tree's law `area-conserved`,
-- by looks' FiguresSay, and on what a call has done (Outcomes).
use mathlib.Core.Path.{◌≡◌, refl, sym, ap, ◌∙◌, subst}
use mathlib.Core.Bool.{true}
use mathlib.Core.List.{List}
use mathlib.Core.Logic.{⊎_elim}
use Prim.Native.Nat.{ℕ}
use Rattle.std.specs.Prelude.{Ok}
use Rattle.piece.specs.declared.size.Size.{Size}
use Rattle.piece.specs.declared.rotation.Rotation.{Rotation}
use Rattle.piece.specs.declared.parttype.PartType.{PartType}
use Rattle.piece.specs.declared.insertion_blueprint.InsertionShape.{InsertionShape}
use Rattle.piece.specs.declared.settings.Opening.{Opening}
use Rattle.piece.specs.declared.settings.Settings.{Settings}
use Rattle.tree.specs.Tree.{Tree}
use Rattle.tree.specs.Figures.{part_area, free_area, eaten_area}
use Rattle.marks.specs.declared.Mark.{Mark}
use Rattle.layout.specs.declared.layout.Layout.{Layout}
use Rattle.layout.specs.declared.open.Opened.{Opened}
use Rattle.layout.specs.declared.insert.Inserted.{Inserted}
use Rattle.layout.specs.declared.remove.Removed.{Removed}
use Rattle.layout.specs.declared.tidy.Tidied.{Tidied}
use Rattle.layout.specs.declared.restore.Restored.{Restored}
use Rattle.layout.specs.Check.{tree, sound_b}
use Rattle.layout.specs.SoundLayout.{SoundLayout, Sized}
use Rattle.layout.specs.Open.{fresh_layout}
use Rattle.layout.specs.Next.{Next}
use Rattle.layout.specs.Insert.{InsertSays}
use Rattle.layout.specs.Remove.{RemoveSays}
use Rattle.layout.specs.Tidy.{TidySays}
use Rattle.layout.specs.Restore.{greater, restore_of, with_serial}
use Rattle.layout.proofs.Exactly.{sound-says, sound-shown}
use Rattle.layout.proofs.Opened.{fresh-sized, fresh-sound}
use Rattle.layout.proofs.Restored.{restored-sound}
use Rattle.questions.specs.Answers.{used_area_of, free_area_of, eaten_area_of}
use Rattle.questions.proofs.FiguresSay.{areas-cover}
use Rattle.demands.specs.Calls.{AreasCover, OpenAccepted, RestoreAccepted}
use Rattle.demands.proofs.Outcomes.{opened-so, inserted-so, removed-so, tidied-so, PutBack, restored-so}

-- on every sound layout
pub areas-cover-sound : (l : Layout) → Sized l → sound_b l ≡ true → AreasCover l l.settings.sheet
unfolding used_area_of free_area_of eaten_area_of
areas-cover-sound l sized sound =
    let u : used_area_of l ≡ Ok (part_area (tree l)) = rw sound refl in
    let f : free_area_of l ≡ Ok (free_area (tree l)) = rw sound refl in
    let e : eaten_area_of l ≡ Ok (eaten_area (tree l)) = rw sound refl in
    record {
      used = part_area (tree l);
      free = free_area (tree l);
      eaten = eaten_area (tree l);
      used_answer = u;
      free_answer = f;
      eaten_answer = e;
      cover = areas-cover l sized (sound-says l sized sound) (part_area (tree l)) (free_area (tree l)) (eaten_area (tree l)) u f e;
      parts = refl;
      frees = refl;
      strips = refl;
    }

-- on a layout that is sound by the rule, and has this sheet
pub sound-covers : (l : Layout) (sheet : Size) → Sized l → SoundLayout l → l.settings.sheet ≡ sheet → AreasCover l sheet
sound-covers l sheet sized h e = subst (AreasCover l) e (areas-cover-sound l sized (sound-shown l sized h))

next-covers : (l : Layout) {w : Tree} {list : List ℕ} {last : ℕ} (n : Layout) → Next l w list last n → AreasCover n l.settings.sheet
next-covers l n h = sound-covers n l.settings.sheet h.sized h.sound (ap (λ (s : Settings). s.sheet) h.settings)

-- ---- after a call on a sound layout, accepted or refused: the sheet is the same

pub areas-after-insert : (l : Layout) (m : Mark) (p : PartType) (r : Rotation) (s : InsertionShape) (a : Inserted) → Sized l → sound_b l ≡ true
    → InsertSays l m p r s a → AreasCover a.layout l.settings.sheet
areas-after-insert l m p r s a sized sound says =
    ⊎_elim (λ e. rw e (areas-cover-sound l sized sound)) (λ z. next-covers l a.layout z.1.next) (inserted-so l m p r s a sized says)

pub areas-after-remove : (l : Layout) (m : Mark) (room : ℕ) (a : Removed) → Sized l → sound_b l ≡ true
    → RemoveSays l m room a → AreasCover a.layout l.settings.sheet
areas-after-remove l m room a sized sound says =
    ⊎_elim (λ e. rw e (areas-cover-sound l sized sound)) (λ z. next-covers l a.layout z.1.next) (removed-so l m room a sized says)

pub areas-after-tidy : (l : Layout) (a : Tidied) → Sized l → sound_b l ≡ true → TidySays l a → AreasCover a.layout l.settings.sheet
areas-after-tidy l a sized sound says =
    ⊎_elim (λ e. rw e (areas-cover-sound l sized sound))
    (λ z. sound-covers a.layout l.settings.sheet z.means.sized z.means.sound (ap (λ (s : Settings). s.sheet) z.means.settings))
    (tidied-so l a sized says)

-- ---- after `restore` of the snapshot k

module _ (l k : Layout) (a : Restored) (sized : Sized l) (sized' : Sized k) where
  put_back : a ≡ restore_of l k → PutBack l k → AreasCover a.layout k.settings.sheet
  put_back says z =
      rw (says, z.is)
      (sound-covers (with_serial k (greater l.serial k.serial)) k.settings.sheet
      (record { nodes = sized'.nodes; free = sized'.free; removable = sized'.removable })
      (restored-sound l k (sound-says l sized z.was) (sound-says k sized' z.kept)) refl)

  -- accepted: the sheet is the snapshot's
  pub areas-after-restore : RestoreAccepted l k a → AreasCover a.layout k.settings.sheet
  areas-after-restore h =
      ⊎_elim (λ y. absurd (y.0 (ap (λ (r : Restored). r.outcome) (sym h.says) ∙ h.done))) (put_back h.says) (restored-so l k)

-- ---- after an opening

opened-sheet : (o : Opening) → (fresh_layout o).settings.sheet ≡ o.settings.sheet
unfolding fresh_layout
opened-sheet o = refl

pub areas-after-open : (o : Opening) (m : Mark) (a : Opened)
    → OpenAccepted o m a → AreasCover a.layout o.settings.sheet
areas-after-open o m a h =
    let t = opened-so o m (ap (λ (r : Opened). r.outcome) (sym h.says) ∙ h.done) in
    rw (h.says, t.1)
    (sound-covers (fresh_layout o) o.settings.sheet (fresh-sized o) (fresh-sound o t.0)
    (opened-sheet o))
