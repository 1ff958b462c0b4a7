-- The figures of a layout, one by one: what is answered where the layout is sound, and that it isn't where one is refused. Rests on the rules of
-- `questions`.
use mathlib.Core.Path.{◌≡◌, refl, sym, ap, ◌∙◌}
use mathlib.Core.Bool.{Bool, true, false, cond}
use Prim.Native.Nat.{ℕ}
use native.Mathlib.Omega.{arith}
use lib.Ieee.{Float}
use Rattle.std.specs.Prelude.{Result, Ok, Err}
use Rattle.piece.specs.Sides.{area}
use Rattle.tree.specs.Tree.{count}
use Rattle.tree.specs.Figures.{part_area, free_area, sheet_usage, tree_usage}
use Rattle.marks.specs.declared.Refusal.{Refusal}
use Rattle.marks.specs.declared.Refusal.TheVariants.{NotSound}
use Rattle.layout.specs.declared.layout.Layout.{Layout}
use Rattle.layout.specs.Check.{tree, sound_b}
use Rattle.desk_frames.specs.declared.write.FigureList.{FigureList}
use Rattle.desk_frames.specs.Answers.{figures_of}
use Rattle.desk_frames.specs.Inner.{figures_call}
use Rattle.questions.specs.Answers.{used_area_of, free_area_of, nodes_held_of, is_empty_of, sheet_usage_of, tree_usage_of, all_free}

-- what is answered after refusal 1, and what is refused with it
given : {A : Type 0} (b : Bool) {x y : A} → Ok x ≡ cond b (Ok y) (Err NotSound) → (b ≡ true) × (x ≡ y)
given true h = (refl, cc)
given false h = let z : ◌≡◌ {A = ℕ} 0 1 = cc in absurd (omega arith)

not-given : {A : Type 0} (b : Bool) (y : A) {r : Refusal} → Err r ≡ cond b (Ok y) (Err NotSound) → (b ≡ false) × (r ≡ NotSound)
not-given true y h = let z : ◌≡◌ {A = ℕ} 0 1 = cc in absurd (omega arith)
not-given false y h = (refl, cc)

-- the six figures
module _ (l : Layout) where
  pub used-is : {a : Result ℕ Refusal} {x : ℕ} → a ≡ used_area_of l → a ≡ Ok x → (sound_b l ≡ true) × (x ≡ part_area (tree l))
  unfolding used_area_of
  used-is e h = given (sound_b l) (sym h ∙ e)

  pub used-not : {a : Result ℕ Refusal} {r : Refusal} → a ≡ used_area_of l → a ≡ Err r → (sound_b l ≡ false) × (r ≡ NotSound)
  unfolding used_area_of
  used-not e h = not-given (sound_b l) (part_area (tree l)) (sym h ∙ e)

  pub free-is : {a : Result ℕ Refusal} {x : ℕ} → a ≡ free_area_of l → a ≡ Ok x → (sound_b l ≡ true) × (x ≡ free_area (tree l))
  unfolding free_area_of
  free-is e h = given (sound_b l) (sym h ∙ e)

  pub free-not : {a : Result ℕ Refusal} {r : Refusal} → a ≡ free_area_of l → a ≡ Err r → (sound_b l ≡ false) × (r ≡ NotSound)
  unfolding free_area_of
  free-not e h = not-given (sound_b l) (free_area (tree l)) (sym h ∙ e)

  pub nodes-is : {a : Result ℕ Refusal} {x : ℕ} → a ≡ nodes_held_of l → a ≡ Ok x → (sound_b l ≡ true) × (x ≡ count (tree l))
  unfolding nodes_held_of
  nodes-is e h = given (sound_b l) (sym h ∙ e)

  pub nodes-not : {a : Result ℕ Refusal} {r : Refusal} → a ≡ nodes_held_of l → a ≡ Err r → (sound_b l ≡ false) × (r ≡ NotSound)
  unfolding nodes_held_of
  nodes-not e h = not-given (sound_b l) (count (tree l)) (sym h ∙ e)

  pub empty-is : {a : Result Bool Refusal} {x : Bool} → a ≡ is_empty_of l → a ≡ Ok x → (sound_b l ≡ true) × (x ≡ all_free (tree l))
  unfolding is_empty_of
  empty-is e h = given (sound_b l) (sym h ∙ e)

  pub empty-not : {a : Result Bool Refusal} {r : Refusal} → a ≡ is_empty_of l → a ≡ Err r → (sound_b l ≡ false) × (r ≡ NotSound)
  unfolding is_empty_of
  empty-not e h = not-given (sound_b l) (all_free (tree l)) (sym h ∙ e)

  pub sheet-is : {a : Result Float Refusal} {x : Float} → a ≡ sheet_usage_of l → a ≡ Ok x → (sound_b l ≡ true) × (x ≡ sheet_usage (part_area (tree l)) (area l.settings.sheet))
  unfolding sheet_usage_of
  sheet-is e h = given (sound_b l) (sym h ∙ e)

  pub sheet-not : {a : Result Float Refusal} {r : Refusal} → a ≡ sheet_usage_of l → a ≡ Err r → (sound_b l ≡ false) × (r ≡ NotSound)
  unfolding sheet_usage_of
  sheet-not e h = not-given (sound_b l) (sheet_usage (part_area (tree l)) (area l.settings.sheet)) (sym h ∙ e)

  pub tree_is : {a : Result Float Refusal} {x : Float} → a ≡ tree_usage_of l → a ≡ Ok x → (sound_b l ≡ true) × (x ≡ tree_usage (tree l))
  unfolding tree_usage_of
  tree_is e h = given (sound_b l) (sym h ∙ e)

  pub tree-not : {a : Result Float Refusal} {r : Refusal} → a ≡ tree_usage_of l → a ≡ Err r → (sound_b l ≡ false) × (r ≡ NotSound)
  unfolding tree_usage_of
  tree-not e h = not-given (sound_b l) (tree_usage (tree l)) (sym h ∙ e)

  -- refused together
  pub figures_refused : {r : Result FigureList Refusal} {e : Refusal} → (sound_b l ≡ false) × (e ≡ NotSound) → ((x : Refusal) × (r ≡ Err x) × (x ≡ e))
      → r ≡ figures_call l
  unfolding figures_call
  figures_refused n p = rw n.0 (p.1 ∙ ap Err (p.2 ∙ n.1))

  pub list-is : {a : Result FigureList Refusal} {x : FigureList} → a ≡ figures_call l → a ≡ Ok x → (sound_b l ≡ true) × (x ≡ figures_of l)
  unfolding figures_call
  list-is e h = given (sound_b l) (sym h ∙ e)

  pub list-not : {a : Result FigureList Refusal} {r : Refusal} → a ≡ figures_call l → a ≡ Err r → (sound_b l ≡ false) × (r ≡ NotSound)
  unfolding figures_call
  list-not e h = not-given (sound_b l) (figures_of l) (sym h ∙ e)
