-- The places that a list names: those of a list and of what comes behind it, and those of the first entries of an array. Assumes nothing.
use mathlib.Core.Path.{◌≡◌, sym, ap, ◌∙◌}
use mathlib.Core.List.{List, [], ◌∷◌, ◌++◌}
use mathlib.Core.Logic.{inl, ⊎_elim}
use Prim.Native.Nat.{ℕ, zero, suc, ◌<◌}
use native.Mathlib.Omega.{arith}
use native.Mathlib.Decide.{ℕ_discrete}
use lib.ListN.{get_or}
use Rattle.tree.specs.ListSteps.{Names}
use Rattle.lists.specs.Lists.{entries}
use Rattle.tree.proofs.Leaving.{names-cases, names-first, names-second}

module _ (i : ℕ) where
  -- the first n entries of an array name what stands among them
  module _ (l : List ℕ) where
    pub named : (n k : ℕ) → k < n → get_or l k 0 ≡ i → Names i (entries n l)
    unfolding entries
    named zero k b e = let none : ⊥ = omega arith in absurd none
    named (suc n) k b e = go (ℕ_discrete k n) (named n k)
      where
        go : Dec (k ≡ n) → (k < n → get_or l k 0 ≡ i → Names i (entries n l)) → Names i (entries n l ++ (get_or l n 0 ∷ []))
        go (yes z) ih = names-second i (entries n l) (get_or l n 0 ∷ []) (inl (sym e ∙ ap (λ (j : ℕ). get_or l j 0) z))
        go (no z) ih = names-first i (entries n l) (get_or l n 0 ∷ []) (ih (omega arith) e)

    -- and nothing else
    pub unnamed : (n : ℕ) → ((k : ℕ) → k < n → get_or l k 0 ≡ i → ⊥) → Names i (entries n l) → ⊥
    unfolding entries
    unnamed zero none m = m
    unnamed (suc n) none m =
        ⊎_elim (unnamed n (λ k b. none k (omega arith))) (λ s. ⊎_elim (λ e. none n (omega arith) (sym e)) (λ v. v) s)
        (names-cases i (entries n l) (get_or l n 0 ∷ []) m)
