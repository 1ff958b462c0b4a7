-- The steps of `usage_of`, over its definition: they rest on the turns of Chain. Assumes nothing.
use mathlib.Core.Path.{◌≡◌, refl, ◌∙◌}
use mathlib.Core.List.{List}
use mathlib.Core.Bool.{cond}
use Prim.Native.Nat.{ℕ, zero, suc, ◌-◌, ◌^◌, ◌<◌, ◌≤◌}
use lib.Dec.{T, eqb, le→leb}
use lib.IntN.{pos}
use lib.ListN.{get_or}
use lib.Ieee.{Float, binary64, add, mul, div, in_float}
use borrow.Author.Tests.{ne_eqb}
use Rattle.tree.specs.Figures.{nought, one}
use Rattle.walks.specs.Chain.{siblings}
use Rattle.walks.specs.Usage.{weight, summed, usage_along}
use Rattle.walks.proofs.Chain.{less_one, siblings-more}

-- an area is cast to f64 without loss
pub in-float : (a : ℕ) → a ≤ 2 ^ 53 → T (in_float binary64 (pos a))
unfolding in_float
in-float a h = le→leb a (2 ^ 53) h

module _ (limit : ℕ) (first next kind area : List ℕ) where
  -- the sum s with what the children from c on add to it
  abbrev pub sum : (left turns c : ℕ) → Float → Float
  sum left turns c s = summed (usage_along limit first next kind area (left - 1)) area (siblings limit next turns c) s

  -- a turn adds the child c, whose usage is u
  pub sum_more : (left turns c : ℕ) (s u : Float) → 0 < turns → c < limit → u ≡ usage_along limit first next kind area (left - 1) c
      → sum left (turns - 1) (get_or next c 0) (add binary64 s (mul binary64 (weight area c) u)) ≡ sum left turns c s
  sum_more left turns c s u more held e = rw (siblings-more limit next c turns more held, e)

  pub usage-none : (n x : ℕ) → n ≡ 0 → usage_along limit first next kind area n x ≡ nought
  unfolding usage_along
  usage-none n x e = rw e

  -- by the kind
  usage-some : (n x : ℕ) → (n ≡ 0 → ⊥)
      → usage_along limit first next kind area n x
      ≡ cond (eqb (get_or kind x 0) 0) nought
      (cond (eqb (get_or kind x 0) 1) one (div binary64 (sum n (n - 1) (get_or first x 0) nought) (weight area x)))
  unfolding usage_along
  usage-some zero x h = absurd (h refl)
  usage-some (suc n) x h = rw (less_one n)

  pub usage-free : (n x : ℕ) → (n ≡ 0 → ⊥) → get_or kind x 0 ≡ 0 → usage_along limit first next kind area n x ≡ nought
  usage-free n x h k = usage-some n x h ∙ rw k

  pub usage-part : (n x : ℕ) → (n ≡ 0 → ⊥) → get_or kind x 0 ≡ 1 → usage_along limit first next kind area n x ≡ one
  usage-part n x h k = usage-some n x h ∙ rw k

  pub usage-more : (n x : ℕ) → (n ≡ 0 → ⊥) → (get_or kind x 0 ≡ 0 → ⊥) → (get_or kind x 0 ≡ 1 → ⊥)
      → usage_along limit first next kind area n x ≡ div binary64 (sum n (n - 1) (get_or first x 0) nought) (weight area x)
  usage-more n x h k j = usage-some n x h ∙ rw (ne_eqb (get_or kind x 0) 0 k, ne_eqb (get_or kind x 0) 1 j)
