-- The pass by residues: how its flags go, and that serials whose residues differ differ themselves. Assumes nothing.
use mathlib.Core.Path.{◌≡◌, refl, sym, ap, ◌∙◌}
use mathlib.Core.List.{List}
use mathlib.Core.Bool.{true, false}
use mathlib.Core.Logic.{◌⊎◌, inl, inr}
use Prim.Native.Nat.{ℕ, ◌+◌, ◌%◌, ◌<◌}
use native.Mathlib.Nat.{not-suc-le-zero}
use native.Mathlib.Omega.{arith}
use native.Mathlib.Decide.{ℕ_discrete}
use lib.Dec.{eqb}
use lib.ListN.{get_or, set}
use borrow.Author.Tests.{eq-eqb, ne_eqb}
use Rattle.lists.specs.Lists.{zeros}
use Rattle.lists.specs.Search.{differ, apart, apart_below}
use Rattle.lists.specs.Inner.{unlike, unlike_below, residues_differ}
use Rattle.lists.proofs.Scan.{clash, every-all, every-at, every-fails}
use Rattle.lists.proofs.Look.{or-true, other}
use Rattle.lists.proofs.Padded.{get_or-zeros, length-zeros}
use Rattle.lists.proofs.Stamps.{residue_at, Some, Stamped, stamped-same, stamped-more}

module _ (s : List ℕ) where
  -- ---- two serials

  unlike-zero : (i j : ℕ) → get_or s i 0 ≡ 0 → unlike s i j ≡ true
  unlike-zero i j e = rw (eq-eqb (get_or s i 0) 0 e) refl

  unlike-other : (i j : ℕ) → (Some s j → residue_at s i ≡ residue_at s j → ⊥) → unlike s i j ≡ true
  unlike-other i j m = go (ℕ_discrete (get_or s j 0) 0)
    where
      go : Dec (get_or s j 0 ≡ 0) → unlike s i j ≡ true
      go (yes e) = rw (eq-eqb (get_or s j 0) 0 e) (or-true (eqb (get_or s i 0) 0))
      go (no n) =
          rw (ne_eqb (residue_at s i) (residue_at s j) (m n), or-true (eqb (get_or s j 0) 0)) (or-true (eqb (get_or s i 0) 0))

  unlike-not : (i j : ℕ) → Some s i → Some s j → residue_at s i ≡ residue_at s j → unlike s i j ≡ false
  unlike-not i j m n e =
      rw (ne_eqb (get_or s i 0) 0 m, ne_eqb (get_or s j 0) 0 n, eq-eqb (residue_at s i) (residue_at s j) e) refl

  unlike-apart : (i j : ℕ) → unlike s i j ≡ true → apart s i j ≡ true
  unlike-apart i j u = go (ℕ_discrete (get_or s i 0) 0) (ℕ_discrete (get_or s j 0) (get_or s i 0))
    where
      go : Dec (get_or s i 0 ≡ 0) → Dec (get_or s j 0 ≡ get_or s i 0) → apart s i j ≡ true
      go (yes e) d = rw (eq-eqb (get_or s i 0) 0 e) refl
      go (no m) (no n) = other s i j n
      go (no m) (yes e) = absurd (clash (sym (unlike-not i j m (λ z. m (sym e ∙ z)) (ap (λ (x : ℕ). x % 4096) (sym e))) ∙ u))

  -- serials differ where their residues do
  pub residues-apart : (bound : ℕ) → residues_differ bound s ≡ true → differ bound s ≡ true
  unfolding residues_differ differ
  residues-apart bound d =
      every-all (apart_below s) bound
      (λ i h. every-all (apart s i) i (λ j b. unlike-apart i j (every-at (unlike s i) i j (every-at (unlike_below s) bound i d h) b)))

  -- ---- the pass

  -- the flags of the serials before i
  abbrev pub Passed : ℕ → List ℕ → Type 0
  Passed i flag = Stamped s 1 (λ j. j < i) flag

  pub passed_none : Passed 0 (zeros 4096)
  passed_none =
      record {
        size = length-zeros 4096;
        stands = λ j h. absurd (not-suc-le-zero h);
        from = λ r e. absurd (none 4096 r e);
      }
    where
      none : (n r : ℕ) → get_or (zeros n) r 0 ≡ 1 → ⊥
      none n r e = let z = get_or-zeros n r in omega arith

  module _ (i : ℕ) {flag : List ℕ} (z : Passed i flag) where
    wider : (j : ℕ) → j < i → j < i + 1
    wider j h = omega arith

    back : (j : ℕ) → j < i + 1 → (j < i) ⊎ (j ≡ i)
    back j h = go (ℕ_discrete j i)
      where
        go : Dec (j ≡ i) → (j < i) ⊎ (j ≡ i)
        go (yes e) = inr e
        go (no e) = inl (omega arith)

    pub passed-zero : get_or s i 0 ≡ 0 → Passed (i + 1) flag
    passed-zero e = stamped-same wider z (λ j h m. go j (back j h) m)
      where
        go : (j : ℕ) → (j < i) ⊎ (j ≡ i) → Some s j → j < i
        go j (inl h) m = h
        go j (inr q) m = absurd (m (ap (λ (k : ℕ). get_or s k 0) q ∙ e))

    pub passed-more : Some s i → Passed (i + 1) (set flag (residue_at s i) 1)
    passed-more m = stamped-more wider z i (omega arith) m back

    pub below-zero : get_or s i 0 ≡ 0 → unlike_below s i ≡ true
    below-zero e = every-all (unlike s i) i (λ j h. unlike-zero i j e)

    pub below_new : (get_or flag (residue_at s i) 0 ≡ 1 → ⊥) → unlike_below s i ≡ true
    below_new none =
        every-all (unlike s i) i
        (λ j h. unlike-other i j (λ m e. none (ap (λ (r : ℕ). get_or flag r 0) e ∙ z.stands j h m)))

    pub below-flagged : Some s i → get_or flag (residue_at s i) 0 ≡ 1 → unlike_below s i ≡ false
    below-flagged m e =
        let w = z.from (residue_at s i) e in
        every-fails (unlike s i) i w.0 w.1 (unlike-not i w.0 m w.2 (sym w.3))
