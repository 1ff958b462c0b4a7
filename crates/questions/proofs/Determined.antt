-- The contract of each call that only reads a layout determines its answer, and the lent buffer where there is one: two answers that meet it are
-- the same.
use mathlib.Core.Path.{◌≡◌}
use mathlib.Core.List.{List}
use Prim.Native.Nat.{ℕ}
use lib.ListN.{length}
use Rattle.std.specs.Prelude.{Result, Float, Bool, Option}
use Rattle.piece.specs.declared.parttype.PartType.{PartType}
use Rattle.marks.specs.declared.Mark.{Mark}
use Rattle.layout.specs.declared.layout.Layout.{Layout}
use Rattle.layout.proofs.Determined.{only}
use Rattle.marks.specs.declared.Refusal.{Refusal}
use Rattle.piece.specs.declared.insertion_option.OfferList.{OfferList}
use Rattle.questions.specs.Answers.{used_area_of, free_area_of, nodes_held_of, sheet_usage_of, tree_usage_of, is_empty_of, free_mark_of, removable_mark_of, offers_call}
use Rattle.questions.specs.Light.{light_of}
use Rattle.questions.specs.Written.{answer_to, left_in_buffer, snapshot_bytes, held_numbers}

module _ (l : Layout) where
  pub used-area-is-one : (r s : Result ℕ Refusal) → r ≡ used_area_of l → s ≡ used_area_of l → r ≡ s
  used-area-is-one = only

  pub free-area-is-one : (r s : Result ℕ Refusal) → r ≡ free_area_of l → s ≡ free_area_of l → r ≡ s
  free-area-is-one = only

  pub nodes-held-is-one : (r s : Result ℕ Refusal) → r ≡ nodes_held_of l → s ≡ nodes_held_of l → r ≡ s
  nodes-held-is-one = only

  pub sheet-usage-is-one : (r s : Result Float Refusal) → r ≡ sheet_usage_of l → s ≡ sheet_usage_of l → r ≡ s
  sheet-usage-is-one = only

  pub tree-usage-is-one : (r s : Result Float Refusal) → r ≡ tree_usage_of l → s ≡ tree_usage_of l → r ≡ s
  tree-usage-is-one = only

  pub is-empty-is-one : (r s : Result Bool Refusal) → r ≡ is_empty_of l → s ≡ is_empty_of l → r ≡ s
  is-empty-is-one = only

  pub free-mark-is-one : (k : ℕ) (r s : Result Mark Refusal) → r ≡ free_mark_of l k → s ≡ free_mark_of l k → r ≡ s
  free-mark-is-one k = only

  pub removable-mark-is-one : (k : ℕ) (r s : Result Mark Refusal) → r ≡ removable_mark_of l k → s ≡ removable_mark_of l k → r ≡ s
  removable-mark-is-one k = only

  pub room-light-is-one : (p : PartType) (r s : Result (Option Mark) Refusal) → r ≡ light_of l p → s ≡ light_of l p → r ≡ s
  room-light-is-one p = only

  pub offers-is-one : (m : Mark) (p : PartType) (r s : Result OfferList Refusal) → r ≡ offers_call l m p → s ≡ offers_call l m p → r ≡ s
  offers-is-one m p = only

  -- of the calls that write: the answer, and what the buffer `out` then holds
  module _ (out : List ℕ) where
    pub snapshot-is-one : (r s : Result ℕ Refusal) → r ≡ answer_to l (snapshot_bytes l) (length out)
        → s ≡ answer_to l (snapshot_bytes l) (length out) → r ≡ s
    snapshot-is-one = only

    pub snapshot-leaves-one : (a b : List ℕ) → a ≡ left_in_buffer l (snapshot_bytes l) out → b ≡ left_in_buffer l (snapshot_bytes l) out → a ≡ b
    snapshot-leaves-one = only

    pub part-numbers-is-one : (r s : Result ℕ Refusal) → r ≡ answer_to l (held_numbers l) (length out)
        → s ≡ answer_to l (held_numbers l) (length out) → r ≡ s
    part-numbers-is-one = only

    pub part-numbers-leaves-one : (a b : List ℕ) → a ≡ left_in_buffer l (held_numbers l) out → b ≡ left_in_buffer l (held_numbers l) out → a ≡ b
    part-numbers-leaves-one = only
