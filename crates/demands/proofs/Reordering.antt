-- Lists of steps: what is so of each of them, or of each two, is so in every order (specs/Orders.antt). Assumes nothing.
use mathlib.Core.Path.{◌≡◌, refl}
use mathlib.Core.List.{List, [], ◌∷◌, ◌++◌}
use Prim.Native.Nat.{ℕ, ◌+◌}
use native.Mathlib.Omega.{arith}
use Rattle.demands.specs.Orders.{Each, Pairwise, Reordered, empty, first, Step}

pub each_map : (P Q : Step → Type 0) → ((s : Step) → P s → Q s) → (ss : List Step) → Each P ss → Each Q ss
each_map P Q f [] h = tt
each_map P Q f (s ∷ ss) h = (f s h.0, each_map P Q f ss h.1)

pub each_both : (P Q R : Step → Type 0) → ((s : Step) → P s → Q s → R s) → (ss : List Step) → Each P ss → Each Q ss → Each R ss
each_both P Q R f [] h g = tt
each_both P Q R f (s ∷ ss) h g = (f s h.0 g.0, each_both P Q R f ss h.1 g.1)

module _ (P : Step → Type 0) where
  each-insert : (s : Step) → P s → (before after : List Step) → Each P (before ++ after) → Each P (before ++ (s ∷ after))
  each-insert s p [] after h = (p, h)
  each-insert s p (b ∷ before) after h = (h.0, each-insert s p before after h.1)

  pub each-reordered : {ss ts : List Step} → Reordered ss ts → Each P ss → Each P ts
  each-reordered empty h = tt
  each-reordered (first s before after r) h = each-insert s h.0 before after (each-reordered r h.1)

  pub each_at : (s : Step) (before after : List Step) → Each P (before ++ (s ∷ after)) → P s
  each_at s [] after h = h.0
  each_at s (b ∷ before) after h = each_at s before after h.1

  pub each-before : (before after : List Step) → Each P (before ++ after) → Each P before
  each-before [] after h = tt
  each-before (b ∷ before) after h = (h.0, each-before before after h.1)

  pub each-behind : (before after : List Step) → Each P (before ++ after) → Each P after
  each-behind [] after h = h
  each-behind (b ∷ before) after h = each-behind before after h.1

  pub each-joined : (before after : List Step) → Each P before → Each P after → Each P (before ++ after)
  each-joined [] after h g = g
  each-joined (b ∷ before) after h g = (h.0, each-joined before after h.1 g)

pub pairs-map : (P : Step → Type 0) (R Q : Step → Step → Type 0) → ((s t : Step) → P s → P t → R s t → Q s t) → (ss : List Step) → Each P ss
    → Pairwise R ss → Pairwise Q ss
pairs-map P R Q f [] h p = tt
pairs-map P R Q f (s ∷ ss) h p = (each_both P (R s) (Q s) (λ t g z. f s t h.0 g z) ss h.1 p.0, pairs-map P R Q f ss h.1 p.1)

module _ (R : Step → Step → Type 0) (back : (s t : Step) → R s t → R t s) where
  pair-insert : (s : Step) (before after : List Step) → Each (R s) (before ++ after) → Pairwise R (before ++ after) → Pairwise R (before ++ (s ∷ after))
  pair-insert s [] after h p = (h, p)
  pair-insert s (b ∷ before) after h p =
      (each-insert (R b) s (back s b h.0) before after p.0, pair-insert s before after h.1 p.1)

  pub pairs-reordered : {ss ts : List Step} → Reordered ss ts → Pairwise R ss → Pairwise R ts
  pairs-reordered empty p = tt
  pairs-reordered (first s before after r) p =
      pair-insert s before after (each-reordered (R s) r p.0) (pairs-reordered r p.1)

-- each of the first part with each of the second
pub pairs-across : (R : Step → Step → Type 0) (before after : List Step) → Pairwise R (before ++ after) → Each (λ b. Each (R b) after) before
pairs-across R [] after p = tt
pairs-across R (b ∷ before) after p = (each-behind (R b) before after p.0, pairs-across R before after p.1)

-- each that comes before s
pub pairs-at : (R : Step → Step → Type 0) (s : Step) (before after : List Step) → Pairwise R (before ++ (s ∷ after)) → Each (λ b. R b s) before
pairs-at R s [] after p = tt
pairs-at R s (b ∷ before) after p = (each_at (R b) s before after p.0, pairs-at R s before after p.1)

-- a sum over a list
module _ (f : Step → ℕ) where
  abbrev pub total : List Step → ℕ
  total [] = 0
  total (s ∷ ss) = f s + total ss

  total-insert : (s : Step) (before after : List Step) → total (before ++ (s ∷ after)) ≡ f s + total (before ++ after)
  total-insert s [] after = refl
  total-insert s (b ∷ before) after = let ih = total-insert s before after in omega arith

  pub total-reordered : {ss ts : List Step} → Reordered ss ts → total ts ≡ total ss
  total-reordered empty = refl
  total-reordered (first s before after r) = let ih = total-reordered r in let z = total-insert s before after in omega arith

  pub total-at : (s : Step) (before after : List Step) → (rest : ℕ) × (total (before ++ (s ∷ after)) ≡ total before + f s + rest)
  total-at s [] after = (total after, omega arith)
  total-at s (b ∷ before) after = let ih = total-at s before after in (ih.0, let z = ih.1 in omega arith)
