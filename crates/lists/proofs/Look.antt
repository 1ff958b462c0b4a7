-- Two serials told apart, and one that stands twice. Assumes nothing.
use mathlib.Core.Path.{◌≡◌, refl, sym}
use mathlib.Core.List.{List}
use mathlib.Core.Bool.{Bool, true, false, ◌||◌}
use Prim.Native.Nat.{ℕ, ◌<◌}
use lib.Dec.{eqb}
use lib.ListN.{get_or}
use borrow.Author.Tests.{eq-eqb, ne_eqb}
use Rattle.lists.specs.Search.{apart, apart_below}
use Rattle.lists.proofs.Scan.{every-all, every-fails}

pub or-true : (c : Bool) → (c || true) ≡ true
or-true true = refl
or-true false = refl

module _ (s : List ℕ) (i : ℕ) where
  pub other : (k : ℕ) → (get_or s k 0 ≡ get_or s i 0 → ⊥) → apart s i k ≡ true
  other k m = rw (ne_eqb (get_or s i 0) (get_or s k 0) (λ z. m (sym z))) (or-true (eqb (get_or s i 0) 0))

  pub unheld : get_or s i 0 ≡ 0 → apart_below s i ≡ true
  unheld e = every-all (apart s i) i (λ x h. rw (eq-eqb (get_or s i 0) 0 e) refl)

  -- a serial that stands before it too
  pub twice : (k : ℕ) → k < i → (get_or s i 0 ≡ 0 → ⊥) → get_or s k 0 ≡ get_or s i 0 → apart_below s i ≡ false
  twice k h m e = every-fails (apart s i) i k h (rw (ne_eqb (get_or s i 0) 0 m, eq-eqb (get_or s i 0) (get_or s k 0) (sym e)) refl)
