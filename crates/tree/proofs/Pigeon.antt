-- A row of so many pieces does not fill more places than that. Assumes nothing.
use mathlib.Core.Path.{◌≡◌, refl}
use mathlib.Core.Bool.{Bool, true, false, cond}
use mathlib.Core.Logic.{◌⊎◌, inl, inr}
use Prim.Native.Nat.{ℕ, zero, suc, ◌+◌, ◌<◌, ◌≤◌}
use native.Mathlib.Omega.{arith}
use lib.Dec.{ltb}
use borrow.Author.Tests.{ltb-true, lt-ltb, le-ltb}
use Rattle.piece.specs.Row.{Row, nil, grow}
use Rattle.tree.specs.Tree.{In, count}
use Rattle.tree.proofs.Rows.{same?}

-- 1 for a place below n
abbrev one : ℕ → ℕ → ℕ
one n p = cond (ltb p n) 1 0

one-most : (n p : ℕ) → one n p ≤ 1
one-most n p = go (ltb p n)
  where
    go : (b : Bool) → cond b 1 0 ≤ 1
    go true = omega arith
    go false = omega arith

one_more : (n p : ℕ) → one n p ≤ one (suc n) p
one_more n p = go (ltb p n) refl
  where
    go : (b : Bool) → ltb p n ≡ b → cond b 1 0 ≤ one (suc n) p
    go true e = rw (lt-ltb p (suc n) (omega (arith, ltb-true p n e))) (omega arith)
    go false e = omega arith

one-here : (n p : ℕ) → n ≡ p → 1 + one n p ≤ one (suc n) p
one-here n p e = rw (le-ltb p n (omega arith), lt-ltb p (suc n) (omega arith)) (omega arith)

module _ {A : Type 0} where
  -- how many pieces have a place below n
  abbrev pub low : ℕ → Row A → ℕ
  low n nil = 0
  low n (grow p d k r) = one n p + (low n k + low n r)

  pub low-most : (n : ℕ) (w : Row A) → low n w ≤ count w
  low-most n nil = omega arith
  low-most n (grow p d k r) = omega (arith, one-most n p, low-most n k, low-most n r)

  pub low-more : (n : ℕ) (w : Row A) → low n w ≤ low (suc n) w
  low-more n nil = omega arith
  low-more n (grow p d k r) = omega (arith, one_more n p, low-more n k, low-more n r)

  low-here : (n : ℕ) (w : Row A) → In n w → 1 + low n w ≤ low (suc n) w
  low-here n nil h = absurd h
  low-here n (grow p d k r) (inl e) = omega (arith, one-here n p e, low-more n k, low-more n r)
  low-here n (grow p d k r) (inr (inl h)) = omega (arith, one_more n p, low-here n k h, low-more n r)
  low-here n (grow p d k r) (inr (inr h)) = omega (arith, one_more n p, low-more n k, low-here n r h)

  -- each place from n up to m is one of the row's: so many pieces more are below m than below n
  pub low-filled : (n m : ℕ) (w : Row A) → n ≤ m → ((j : ℕ) → n ≤ j → j < m → In j w) → low n w + m ≤ low m w + n
  low-filled n zero w l f = let e : n ≡ 0 = omega arith in rw e (omega arith)
  low-filled n (suc m) w l f = go (same? n (suc m)) (low-filled n m w)
    where
      go : (n ≡ suc m) ⊎ (n ≡ suc m → ⊥)
          → (n ≤ m → ((j : ℕ) → n ≤ j → j < m → In j w) → low n w + m ≤ low m w + n) → low n w + suc m ≤ low (suc m) w + n
      go (inl e) ih = rw e (omega arith)
      go (inr o) ih =
          let a = ih (omega arith) (λ j b c. f j b (omega arith)) in
          let b = low-here m w (f m (omega arith) (omega arith)) in
          omega arith
