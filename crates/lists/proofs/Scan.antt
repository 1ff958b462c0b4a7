-- How a loop goes through a search or a test of each number below a bound, and what the answer says. Every loop over places cites these.
-- Assumes nothing.
use mathlib.Core.Path.{◌≡◌, refl, sym, ap, ◌∙◌}
use mathlib.Core.Bool.{Bool, true, false, cond, ◌&&◌, ◌||◌}
use mathlib.Core.Logic.{◌⊎◌, inl, inr}
use Prim.Native.Nat.{ℕ, zero, suc, ◌+◌, ◌-◌, ◌<◌, ◌≤◌}
use native.Mathlib.Nat.{not-suc-le-zero}
use native.Mathlib.Numerals.{add-one}
use native.Mathlib.Omega.{arith}
use native.Mathlib.Decide.{ℕ_discrete, dec_lt}
use Rattle.lists.specs.Search.{first_from, every}

-- a test is true or false, with the equation
pub test : (b : Bool) → (b ≡ true) ⊎ (b ≡ false)
test true = inl refl
test false = inr refl

pub clash : false ≡ true → ⊥
clash z = let w : ◌≡◌ {A = ℕ} 0 1 = cc in omega arith

pub and_left : (a b : Bool) → (a && b) ≡ true → a ≡ true
and_left true b e = refl
and_left false b e = e

pub and_right : (a b : Bool) → (a && b) ≡ true → b ≡ true
and_right true b e = e
and_right false b e = absurd (clash e)

pub and-false : (a b : Bool) → b ≡ false → (a && b) ≡ false
and-false true b e = e
and-false false b e = refl

pub or_cases : (a b : Bool) → (a || b) ≡ true → (a ≡ true) ⊎ (b ≡ true)
or_cases true b e = inl refl
or_cases false b e = inr e

-- two searches for what is the same find the same
pub first-same : (f g : ℕ → Bool) (m n : ℕ) → ((i : ℕ) → n ≤ i → i < n + m → f i ≡ g i) → first_from f m n ≡ first_from g m n
unfolding first_from
first-same f g zero n h = refl
first-same f g (suc m) n h =
    rw (h n (omega arith) (omega arith), first-same f g m (n + 1) (λ i a b. h i (omega arith) (omega arith))) refl

-- k is the least number below n of which f holds
pub record Least (f : ℕ → Bool) (n k : ℕ) : Type 0 where
  pub below : k < n
  pub holds : f k ≡ true
  pub before : (j : ℕ) → j < k → f j ≡ false

module _ (f : ℕ → Bool) where
  -- ---- a search

  -- n numbers are searched, and none before i is the answer
  abbrev pub Searching : ℕ → ℕ → Type 0
  Searching n i = (i ≤ n) × (first_from f (n - i) i ≡ first_from f n 0)

  pub search-start : (n : ℕ) → Searching n 0
  search-start n = let e : n - 0 ≡ n = omega arith in (omega arith, rw e refl)

  pub search-on : (n i : ℕ) → Searching n i → i < n → f i ≡ false → Searching n (i + 1)
  unfolding first_from
  search-on n i s h e =
      let d : n - i ≡ suc (n - (i + 1)) = omega arith in
      let r : first_from f (n - i) i ≡ first_from f (n - (i + 1)) (i + 1) = rw (d, e) refl in
      (omega arith, sym r ∙ s.1)

  pub search-found : (n i : ℕ) → Searching n i → i < n → f i ≡ true → i ≡ first_from f n 0
  unfolding first_from
  search-found n i s h e =
      let d : n - i ≡ suc (n - (i + 1)) = omega arith in
      let r : first_from f (n - i) i ≡ i = rw (d, e) refl in
      sym r ∙ s.1

  pub search-end : (n i : ℕ) → Searching n i → n ≤ i → n ≡ first_from f n 0
  unfolding first_from
  search-end n i s h =
      let d : n - i ≡ 0 = omega arith in
      let r : first_from f (n - i) i ≡ i = rw d refl in
      let q : n ≡ i = omega arith in
      q ∙ sym r ∙ s.1

  -- the answer is no earlier than where the search began, and at most the number past it
  pub first-from : (n i : ℕ) → i ≤ first_from f n i
  unfolding first_from
  first-from zero i = omega arith
  first-from (suc n) i = go (f i) (first-from n (i + 1))
    where
      go : (b : Bool) → i + 1 ≤ first_from f n (i + 1) → i ≤ cond b i (first_from f n (i + 1))
      go true h = omega arith
      go false h = omega arith

  pub first-most : (n i : ℕ) → first_from f n i ≤ i + n
  unfolding first_from
  first-most zero i = omega arith
  first-most (suc n) i = go (f i) (first-most n (i + 1))
    where
      go : (b : Bool) → first_from f n (i + 1) ≤ i + 1 + n → cond b i (first_from f n (i + 1)) ≤ i + suc n
      go true h = omega arith
      go false h = omega arith

  -- f holds of the answer, if that is not the number past the last
  pub first_holds : (n i : ℕ) → first_from f n i < i + n → f (first_from f n i) ≡ true
  unfolding first_from
  first_holds zero i h = absurd (no h)
    where
      no : i < i + 0 → ⊥
      no h = omega arith
  first_holds (suc n) i h = go (f i) refl h (first_holds n (i + 1))
    where
      go : (b : Bool) → f i ≡ b → cond b i (first_from f n (i + 1)) < i + suc n
          → (first_from f n (i + 1) < i + 1 + n → f (first_from f n (i + 1)) ≡ true)
          → f (cond b i (first_from f n (i + 1))) ≡ true
      go true e h ih = e
      go false e h ih = ih (omega arith)

  -- and of no number before it
  pub first-before : (n i j : ℕ) → i ≤ j → j < first_from f n i → f j ≡ false
  unfolding first_from
  first-before zero i j a h = absurd (no a h)
    where
      no : i ≤ j → j < i → ⊥
      no a h = omega arith
  first-before (suc n) i j a h = go (f i) refl h (ℕ_discrete i j) (first-before n (i + 1) j)
    where
      go : (b : Bool) → f i ≡ b → j < cond b i (first_from f n (i + 1)) → Dec (i ≡ j)
          → (i + 1 ≤ j → j < first_from f n (i + 1) → f j ≡ false) → f j ≡ false
      go true e h d ih = absurd (no h)
        where
          no : j < i → ⊥
          no h = omega arith
      go false e h (yes d) ih = ap f (sym d) ∙ e
      go false e h (no d) ih = ih (omega arith) h

  -- the answer is the least number of which f holds, and no other number is that
  pub found-least : (n : ℕ) → first_from f n 0 < n → Least f n (first_from f n 0)
  found-least n b =
      record { below = b; holds = first_holds n 0 (omega arith); before = λ j h. first-before n 0 j (omega arith) h }

  pub least-found : (n k : ℕ) → Least f n k → first_from f n 0 ≡ k
  least-found n k h = go (dec_lt k (first_from f n 0)) (dec_lt (first_from f n 0) k)
    where
      go : Dec (k < first_from f n 0) → Dec (first_from f n 0 < k) → first_from f n 0 ≡ k
      go (yes b) d = absurd (clash (sym (first-before n 0 k (omega arith) b) ∙ h.holds))
      go (no a) (yes b) =
          let in-range : first_from f n 0 < 0 + n = omega (arith, h.below) in
          absurd (clash (sym (h.before (first_from f n 0) b) ∙ first_holds n 0 in-range))
      go (no a) (no b) = omega arith

  -- ---- a test of each number

  pub every-none : every f 0 ≡ true
  unfolding every
  every-none = refl

  pub every_more : (i : ℕ) → every f i ≡ true → f i ≡ true → every f (i + 1) ≡ true
  unfolding every
  every_more i h e = rw (add-one i, h, e) refl

  pub every-all : (n : ℕ) → ((i : ℕ) → i < n → f i ≡ true) → every f n ≡ true
  unfolding every
  every-all zero h = refl
  every-all (suc n) h = rw (every-all n (λ i l. h i (omega arith)), h n (omega arith)) refl

  pub every-fails : (n i : ℕ) → i < n → f i ≡ false → every f n ≡ false
  unfolding every
  every-fails zero i h e = absurd (not-suc-le-zero h)
  every-fails (suc n) i h e = go (ℕ_discrete i n) (every-fails n i)
    where
      go : Dec (i ≡ n) → (i < n → f i ≡ false → every f n ≡ false) → (every f n && f n) ≡ false
      go (yes z) ih = and-false (every f n) (f n) (ap f (sym z) ∙ e)
      go (no z) ih = rw (ih (omega arith) e) refl

  pub every-at : (n i : ℕ) → every f n ≡ true → i < n → f i ≡ true
  unfolding every
  every-at zero i e h = absurd (not-suc-le-zero h)
  every-at (suc n) i e h = go (ℕ_discrete i n) (every-at n i (and_left (every f n) (f n) e))
    where
      go : Dec (i ≡ n) → (i < n → f i ≡ true) → f i ≡ true
      go (yes z) ih = ap f z ∙ and_right (every f n) (f n) e
      go (no z) ih = ih (omega arith)

  -- where it fails it fails somewhere
  pub every-missing : (n : ℕ) → every f n ≡ false → (i : ℕ) × (i < n) × (f i ≡ false)
  unfolding every
  every-missing zero e = absurd (clash (sym e))
  every-missing (suc n) e = go (test (f n)) (every-missing n)
    where
      and-true : (b c : Bool) → (b && c) ≡ false → c ≡ true → b ≡ false
      and-true true c z q = absurd (clash (sym z ∙ q))
      and-true false c z q = refl

      go : (f n ≡ true) ⊎ (f n ≡ false) → (every f n ≡ false → (i : ℕ) × (i < n) × (f i ≡ false)) → (i : ℕ) × (i < suc n) × (f i ≡ false)
      go (inl t) ih = let w = ih (and-true (every f n) (f n) e t) in (w.0, omega arith, w.2)
      go (inr t) ih = (n, omega arith, t)
