-- The contracts of the two calls determine their answers and what the lent buffer then holds: two that meet one are the same.
use mathlib.Core.Path.{◌≡◌}
use mathlib.Core.List.{List}
use lib.ListN.{length}
use Prim.Native.Nat.{ℕ}
use Rattle.std.specs.Prelude.{Result}
use Rattle.layout.specs.declared.layout.Layout.{Layout}
use Rattle.layout.proofs.Determined.{only}
use Rattle.marks.specs.declared.Refusal.{Refusal}
use Rattle.questions.specs.Written.{answer_to, left_in_buffer}
use Rattle.saw.specs.Written.{saw_bytes, amount_bytes}

module _ (l : Layout) (out : List ℕ) where
  pub cuts-is-one : (r s : Result ℕ Refusal) → r ≡ answer_to l (saw_bytes l) (length out) → s ≡ answer_to l (saw_bytes l) (length out) → r ≡ s
  cuts-is-one = only

  pub cuts-leaves-one : (a b : List ℕ) → a ≡ left_in_buffer l (saw_bytes l) out → b ≡ left_in_buffer l (saw_bytes l) out → a ≡ b
  cuts-leaves-one = only

  pub amounts-is-one : (r s : Result ℕ Refusal) → r ≡ answer_to l (amount_bytes l) (length out) → s ≡ answer_to l (amount_bytes l) (length out) → r ≡ s
  amounts-is-one = only

  pub amounts-leaves-one : (a b : List ℕ) → a ≡ left_in_buffer l (amount_bytes l) out → b ≡ left_in_buffer l (amount_bytes l) out → a ≡ b
  amounts-leaves-one = only
