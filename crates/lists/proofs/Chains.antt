-- The chains of the classes: the last number below a bound, how the loop lays the chains, and where they lead. Assumes nothing.
use mathlib.Core.Path.{◌≡◌, refl, sym, ap, ◌∙◌}
use mathlib.Core.List.{List}
use mathlib.Core.Bool.{Bool, true, false, cond}
use Prim.Native.Nat.{ℕ, zero, suc, ◌+◌, ◌<◌, ◌≤◌}
use native.Mathlib.Nat.{not-suc-le-zero}
use native.Mathlib.Numerals.{add-one}
use native.Mathlib.Omega.{arith}
use native.Mathlib.Decide.{ℕ_discrete}
use lib.ListN.{length, get_or, set, length-set}
use lib.Seq.{get_or-set_same, get_or-set_other}
use borrow.Author.Tests.{eq-eqb, ne_eqb, eqb-true}
use Rattle.lists.specs.Lists.{limit, zeros}
use Rattle.lists.specs.Inner.{class_at, in_class, last_below, Chained}
use Rattle.lists.proofs.Scan.{clash}
use Rattle.lists.proofs.Padded.{get_or-zeros, length-zeros}

-- ---- the last number below a bound

module _ (f : ℕ → Bool) where
  last_none : last_below f 0 ≡ 0
  unfolding last_below
  last_none = refl

  last-here : (n : ℕ) → f n ≡ true → last_below f (n + 1) ≡ n + 1
  unfolding last_below
  last-here n e = rw (add-one n, e) refl

  last_on : (n : ℕ) → f n ≡ false → last_below f (n + 1) ≡ last_below f n
  unfolding last_below
  last_on n e = rw (add-one n, e) refl

  pub last-most : (n : ℕ) → last_below f n ≤ n
  unfolding last_below
  last-most zero = omega arith
  last-most (suc n) = go (f n) (last-most n)
    where
      go : (b : Bool) → last_below f n ≤ n → cond b (suc n) (last_below f n) ≤ suc n
      go true h = omega arith
      go false h = omega arith

  -- f holds of it, if it is there
  pub last-holds : (n p : ℕ) → last_below f n ≡ p + 1 → f p ≡ true
  unfolding last_below
  last-holds zero p e = absurd (no e)
    where
      no : 0 ≡ p + 1 → ⊥
      no e = omega arith
  last-holds (suc n) p e = go (f n) refl e (last-holds n p)
    where
      go : (b : Bool) → f n ≡ b → cond b (suc n) (last_below f n) ≡ p + 1 → (last_below f n ≡ p + 1 → f p ≡ true) → f p ≡ true
      go true q e ih = let z : n ≡ p = omega arith in ap f (sym z) ∙ q
      go false q e ih = ih e

  -- and of none between it and the bound
  pub last-past : (n j : ℕ) → last_below f n ≤ j → j < n → f j ≡ false
  unfolding last_below
  last-past zero j a h = absurd (not-suc-le-zero h)
  last-past (suc n) j a h = go (f n) refl a (ℕ_discrete j n) (last-past n j)
    where
      go : (b : Bool) → f n ≡ b → cond b (suc n) (last_below f n) ≤ j → Dec (j ≡ n) → (last_below f n ≤ j → j < n → f j ≡ false) → f j ≡ false
      go true q a d ih = absurd (no a)
        where
          no : suc n ≤ j → ⊥
          no a = omega arith
      go false q a (yes e) ih = ap f e ∙ q
      go false q a (no e) ih = ih a (omega arith)

-- ---- the loop

-- the places before i are in the chains
pub record Chaining (s : List ℕ) (i : ℕ) (head link : List ℕ) : Type 0 where
  pub head-size : length head ≡ 256
  pub link-size : length link ≡ limit
  pub heads : (h : ℕ) → h < 256 → get_or head h 0 ≡ last_below (in_class s h) i
  pub links : (j : ℕ) → j < i → get_or link j 0 ≡ last_below (in_class s (class_at s j)) j

module _ (s : List ℕ) where
  pub chaining-none : Chaining s 0 (zeros 256) (zeros limit)
  chaining-none =
      record {
        head-size = length-zeros 256;
        link-size = length-zeros limit;
        heads = λ h b. get_or-zeros 256 h ∙ sym (last_none (in_class s h));
        links = λ j b. absurd (not-suc-le-zero b);
      }

  pub chaining-more : (i : ℕ) {head link : List ℕ} → Chaining s i head link → i < limit → class_at s i < 256
      → Chaining s (i + 1) (set head (class_at s i) (i + 1)) (set link i (get_or head (class_at s i) 0))
  chaining-more i {head} {link} c b low =
      record {
        head-size = length-set head (class_at s i) (i + 1) ∙ c.head-size;
        link-size = length-set link i (get_or head (class_at s i) 0) ∙ c.link-size;
        heads = λ h l. one h l (ℕ_discrete h (class_at s i));
        links = λ j l. two j l (ℕ_discrete j i);
      }
    where
      one : (h : ℕ) → h < 256 → Dec (h ≡ class_at s i) → get_or (set head (class_at s i) (i + 1)) h 0 ≡ last_below (in_class s h) (i + 1)
      one h l (yes e) =
          let z = c.head-size in
          ap (λ (k : ℕ). get_or (set head (class_at s i) (i + 1)) k 0) e
          ∙ get_or-set_same head (class_at s i) (i + 1) 0 (omega arith)
          ∙ sym (last-here (in_class s h) i (eq-eqb (class_at s i) h (sym e)))
      one h l (no e) =
          get_or-set_other head (class_at s i) h (i + 1) 0 e
          ∙ c.heads h l
          ∙ sym (last_on (in_class s h) i (ne_eqb (class_at s i) h (λ q. e (sym q))))

      two : (j : ℕ) → j < i + 1 → Dec (j ≡ i)
          → get_or (set link i (get_or head (class_at s i) 0)) j 0 ≡ last_below (in_class s (class_at s j)) j
      two j l (yes e) =
          let z = c.link-size in
          rw e (get_or-set_same link i (get_or head (class_at s i) 0) 0 (omega arith) ∙ c.heads (class_at s i) low)
      two j l (no e) = get_or-set_other link i j (get_or head (class_at s i) 0) 0 e ∙ c.links j (omega arith)

  pub chaining-all : {i : ℕ} {head link : List ℕ} → i ≡ limit → Chaining s i head link → Chained s record { head = head; link = link }
  chaining-all {i} {head} {link} e c = record { heads = rw e at c.heads; links = rw e at c.links }

-- ---- where a chain leads

-- c is the number past a place of class h, or 0; between it and b there is none
pub record Leads (s : List ℕ) (h b c : ℕ) : Type 0 where
  pub most : c ≤ b
  pub holds : (p : ℕ) → c ≡ p + 1 → class_at s p ≡ h
  pub past : (j : ℕ) → c ≤ j → j < b → class_at s j ≡ h → ⊥

pub last-leads : (s : List ℕ) (h b : ℕ) {c : ℕ} → c ≡ last_below (in_class s h) b → Leads s h b c
last-leads s h b {c} e =
    record {
      most = let m = last-most (in_class s h) b in omega arith;
      holds = λ p q. eqb-true (class_at s p) h (last-holds (in_class s h) b p (sym e ∙ q));
      past = λ j a l q.
          clash (sym (last-past (in_class s h) b j (rw e at a) l) ∙ eq-eqb (class_at s j) h q);
    }
