-- Document 01, "Figures", of the answers themselves: what the calls say of a sound layout, and how their answers hang together.
use mathlib.Core.Path.{◌≡◌, refl, ap, ◌∙◌}
use mathlib.Core.Bool.{true, false}
use mathlib.Core.Logic.{◌↔◌}
use Prim.Native.Nat.{ℕ, ◌+◌}
use native.Mathlib.Omega.{arith}
use Rattle.std.specs.Prelude.{Ok}
use Rattle.piece.specs.Sides.{area}
use Rattle.tree.specs.Figures.{part_area, free_area, eaten_area, one, sheet_usage, tree_usage}
use Rattle.tree.proofs.Laws.AreaConserved.{area-conserved}
use Rattle.tree.proofs.Laws.SheetUsageOne.{sheet-usage-one}
use Rattle.tree.proofs.Laws.TreeUsageOne.{tree-usage-one}
use Rattle.layout.specs.declared.layout.Layout.{Layout}
use Rattle.layout.specs.Check.{tree, sound_b}
use Rattle.layout.specs.SoundLayout.{SoundLayout, Sized}
use Rattle.layout.proofs.Exactly.{sound-shown}
use Rattle.questions.specs.Answers.{used_area_of, free_area_of, eaten_area_of, sheet_usage_of, tree_usage_of, is_empty_of}
use Rattle.questions.proofs.Figured.{never-empty}

module _ (l : Layout) (sized : Sized l) (s : SoundLayout l) where
  -- ---- the answers: none of them is a refusal

  yes : sound_b l ≡ true
  yes = sound-shown l sized s

  used-answer : used_area_of l ≡ Ok (part_area (tree l))
  unfolding used_area_of
  used-answer = rw yes refl

  free-answer : free_area_of l ≡ Ok (free_area (tree l))
  unfolding free_area_of
  free-answer = rw yes refl

  eaten-answer : eaten_area_of l ≡ Ok (eaten_area (tree l))
  unfolding eaten_area_of
  eaten-answer = rw yes refl

  sheet-answer : sheet_usage_of l ≡ Ok (sheet_usage (part_area (tree l)) (area l.settings.sheet))
  unfolding sheet_usage_of
  sheet-answer = rw yes refl

  tree-answer : tree_usage_of l ≡ Ok (tree_usage (tree l))
  unfolding tree_usage_of
  tree-answer = rw yes refl

  -- ---- what they say of each other

  -- the parts, the free pieces and what was eaten cover the sheet
  pub areas-cover : (used free eaten : ℕ) → used_area_of l ≡ Ok used → free_area_of l ≡ Ok free → eaten_area_of l ≡ Ok eaten
      → used + free + eaten ≡ area l.settings.sheet
  areas-cover used free eaten e f g =
      let a = used-answer in
      let b = free-answer in
      let c = eaten-answer in
      let u : used ≡ part_area (tree l) = cc in
      let v : free ≡ free_area (tree l) = cc in
      let w : eaten ≡ eaten_area (tree l) = cc in
      omega (arith, area-conserved (tree l) s.sound)

  -- sheet usage "is exactly 1 if and only if no free area is left" and nothing was eaten
  pub full-sheet : (sheet_usage_of l ≡ Ok one) ↔ ((free_area (tree l) ≡ 0) × (eaten_area (tree l) ≡ 0))
  full-sheet =
      let law = sheet-usage-one (tree l) s.sound in
      let a = sheet-answer in
      ((λ e. law.0 (cc)), λ e. a ∙ ap Ok (law.1 e))

  -- "The top's is exactly 1 where no free piece has area" and nothing was eaten.
  pub full-tree : free_area (tree l) ≡ 0 → eaten_area (tree l) ≡ 0 → tree_usage_of l ≡ Ok one
  full-tree e f = tree-answer ∙ ap Ok (tree-usage-one (tree l) s.sound e f)

  -- "`is_empty` is no on every sound layout."
  pub not-empty : is_empty_of l ≡ Ok false
  unfolding is_empty_of
  not-empty = rw yes (ap Ok (never-empty l s))
