-- Document 02, No. 5: what `tidy` answers. "While some structure other than the top has one child and that is free, it is taken out by the old removal, lowest
-- place first." "Refusals: 1, then 9 if the whole tidying wouldn't find serials, and then nothing is changed."
use Rattle.std.specs.Prelude.{◌≡◌, cond, ℕ, ◌+◌, leb, Ok, Err}
use Rattle.std.proofs.Math.Option.{Option, none, some}
use Rattle.tree.specs.Pieces.{max_serial}
use Rattle.tree.specs.Tidy.{Lowest, Tidy, empties}
use Rattle.marks.specs.declared.Refusal.{Refusal}
use Rattle.marks.specs.declared.Refusal.TheVariants.{NotSound, SerialsSpent}
use Rattle.layout.specs.declared.layout.Layout.{Layout}
use Rattle.layout.specs.declared.remove.Removed.{Removed}
use Rattle.layout.specs.declared.tidy.Tidied.{Tidied}
use Rattle.layout.specs.Check.{tree, sound_b}
use Rattle.layout.specs.Remove.{RemoveDone}

-- what it is refused with. Each step takes one serial, and there are as many as there are structures but the top with no part inside: proofs/Tidying.antt
unfoldable pub tidy_no : Layout → Option Refusal
tidy_no l = cond (sound_b l) (cond (leb (l.serial + empties (tree l)) max_serial) none (some SerialsSpent)) (some NotSound)

-- "Refused: number, layout as handed in .., zero in other fields"
abbrev pub refused_tidy : Layout → Refusal → Tidied
refused_tidy l e = record { outcome = Err e; count = 0; layout = l }

-- THE RULE: from l, the lowest untidy structure is taken out, and so on, k times in all, until none is left, and then the layout is n
pub data Tidies : Layout → ℕ → Layout → Type 0 where
  tidy : {l : Layout} → Tidy (tree l) → Tidies l 0 l
  takes : {l n : Layout} {k : ℕ} (x : ℕ) (a : Removed) → Lowest x (tree l) → RemoveDone l x a → Tidies a.layout k n → Tidies l (1 + k) n

-- accepted: how many were taken out, and the layout that is left
pub record TidyDone (l : Layout) (a : Tidied) : Type 0 where
  pub outcome : a.outcome ≡ Ok tt
  pub tidies : Tidies l a.count a.layout

abbrev pub tidy_is : Option Refusal → Layout → Tidied → Type 0
tidy_is (some e) l a = a ≡ refused_tidy l e
tidy_is none l a = TidyDone l a

unfoldable pub TidySays : Layout → Tidied → Type 0
TidySays l a = tidy_is (tidy_no l) l a
