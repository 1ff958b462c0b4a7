-- The clauses on the two lists: what their tests say.
use mathlib.Core.Path.{◌≡◌, refl, sym, ap, ◌∙◌}
use mathlib.Core.List.{List}
use mathlib.Core.Bool.{Bool, true, false, ◌&&◌, ◌||◌}
use mathlib.Core.Logic.{◌⊎◌, inl, inr, ⊎_elim}
use Prim.Native.Nat.{ℕ, zero, suc, ◌+◌, ◌<◌, ◌≤◌}
use native.Mathlib.Nat.{not-suc-le-zero}
use native.Mathlib.Numerals.{add-one}
use native.Mathlib.Omega.{arith}
use native.Mathlib.Decide.{ℕ_discrete}
use lib.Dec.{eqb, ltb, leb}
use lib.ListN.{get_or}
use borrow.Author.Tests.{eq-eqb, lt-ltb, le-ltb, le-leb, lt-leb, leb-false, eqb-true, ltb-true}
use Rattle.lists.specs.Search.{every}
use Rattle.lists.proofs.Scan.{and_left, and_right, every-all, every-at, every_more, or_cases}
use Rattle.sound.specs.Listed.{wanted_in, agree, covers_b, before, sorted_b}

-- two truth values agree exactly where they are equal
pub agree-says : (a b : Bool) → agree a b ≡ true → a ≡ b
agree-says true b e = sym e
agree-says false true e = e
agree-says false false e = refl

pub agree-shown : (a b : Bool) → a ≡ b → agree a b ≡ true
agree-shown true b e = sym e
agree-shown false true e = e
agree-shown false false e = refl

-- the test at one place
abbrev pub covered_at : Bool → List ℕ → List ℕ → List ℕ → ℕ → Bool
covered_at free serial kind f i = agree (wanted_in free serial kind i) (eqb (get_or f i 0) 1)

module _ (limit : ℕ) (free : Bool) (serial kind f : List ℕ) where
  -- a flag stands exactly where it is wanted
  pub covers-says : covers_b limit free serial kind f ≡ true → (i : ℕ) → i < limit → wanted_in free serial kind i ≡ eqb (get_or f i 0) 1
  unfolding covers_b
  covers-says e i h = agree-says (wanted_in free serial kind i) (eqb (get_or f i 0) 1) (every-at (covered_at free serial kind f) limit i e h)

  pub covers-shown : ((i : ℕ) → i < limit → wanted_in free serial kind i ≡ eqb (get_or f i 0) 1) → covers_b limit free serial kind f ≡ true
  unfolding covers_b
  covers-shown h =
      every-all (covered_at free serial kind f) limit (λ i l. agree-shown (wanted_in free serial kind i) (eqb (get_or f i 0) 1) (h i l))

-- a piece of area a and serial s before one of area b and serial t: the test, and as a fact
abbrev ahead : ℕ → ℕ → ℕ → ℕ → Bool
ahead a s b t = ltb b a || (eqb a b && ltb s t)

abbrev pub Ahead : ℕ → ℕ → ℕ → ℕ → Type 0
Ahead a s b t = (b < a) ⊎ ((a ≡ b) × (s < t))

pub ahead-says : (a s b t : ℕ) → ahead a s b t ≡ true → Ahead a s b t
ahead-says a s b t e =
    ⊎_elim
    (λ x. inl (ltb-true b a x))
    (λ x. inr (eqb-true a b (and_left (eqb a b) (ltb s t) x), ltb-true s t (and_right (eqb a b) (ltb s t) x)))
    (or_cases (ltb b a) (eqb a b && ltb s t) e)

pub ahead-shown : (a s b t : ℕ) → Ahead a s b t → ahead a s b t ≡ true
ahead-shown a s b t (inl h) = rw (lt-ltb b a h) refl
ahead-shown a s b t (inr h) = rw (le-ltb b a (omega arith), eq-eqb a b h.0, lt-ltb s t h.1) refl

pub ahead-trans : (a s b t d u : ℕ) → Ahead a s b t → Ahead b t d u → Ahead a s d u
ahead-trans a s b t d u (inl h) (inl k) = inl (omega arith)
ahead-trans a s b t d u (inl h) (inr k) = inl (omega arith)
ahead-trans a s b t d u (inr h) (inl k) = inl (omega arith)
ahead-trans a s b t d u (inr h) (inr k) = inr (omega arith, omega arith)

-- the piece at p before the one at q, and the entry at j before the one at k
abbrev pub Before : List ℕ → List ℕ → ℕ → ℕ → Type 0
Before area serial p q = Ahead (get_or area p 0) (get_or serial p 0) (get_or area q 0) (get_or serial q 0)

abbrev pub InOrder : List ℕ → List ℕ → List ℕ → ℕ → ℕ → Type 0
InOrder area serial l j k = Before area serial (get_or l j 0) (get_or l k 0)

-- the test at one entry
abbrev pub ordered_at : List ℕ → List ℕ → List ℕ → ℕ → ℕ → Bool
ordered_at area serial l n k = leb n (k + 1) || before area serial (get_or l k 0) (get_or l (k + 1) 0)

module _ (area serial l : List ℕ) (n : ℕ) where
  -- a turn of the loop, and its end
  pub ordered-here : (j k : ℕ) {r : Bool} → k ≡ j + 1 → r ≡ before area serial (get_or l j 0) (get_or l k 0) → r ≡ true
      → ordered_at area serial l n j ≡ true
  ordered-here j k z b e = rw (sym (rw z at b) ∙ e) (or-true (leb n (j + 1)))
    where
      or-true : (b : Bool) → (b || true) ≡ true
      or-true true = refl
      or-true false = refl

  pub ordered-bad : (j k : ℕ) {r : Bool} → k ≡ j + 1 → k < n → r ≡ before area serial (get_or l j 0) (get_or l k 0) → r ≡ false
      → ordered_at area serial l n j ≡ false
  ordered-bad j k z h b e = rw (lt-leb n (j + 1) (omega arith), sym (rw z at b) ∙ e) refl

  pub ordered_end : (k : ℕ) → k ≤ n → n ≤ k + 1 → every (ordered_at area serial l n) k ≡ true → sorted_b area serial l n ≡ true
  unfolding sorted_b
  ordered_end k h e all = go (ℕ_discrete k n)
    where
      go : Dec (k ≡ n) → every (ordered_at area serial l n) n ≡ true
      go (yes z) = rw z at all
      go (no z) =
          let z' : n ≡ k + 1 = omega arith in
          let here : ordered_at area serial l n k ≡ true = rw (le-leb n (k + 1) e) refl in
          ap (every (ordered_at area serial l n)) z' ∙ every_more (ordered_at area serial l n) k all here

  -- each entry comes before the next
  pub sorted-says : sorted_b area serial l n ≡ true → (k : ℕ) → k + 1 < n → InOrder area serial l k (k + 1)
  unfolding sorted_b
  sorted-says e k h = ahead-says _ _ _ _ (rw (lt-leb n (k + 1) h) at (every-at (ordered_at area serial l n) n k e (omega arith)))

  pub sorted-shown : ((k : ℕ) → k + 1 < n → InOrder area serial l k (k + 1)) → sorted_b area serial l n ≡ true
  unfolding sorted_b
  sorted-shown h = every-all (ordered_at area serial l n) n (λ k l. go k (leb n (k + 1)) refl)
    where
      go : (k : ℕ) (b : Bool) → leb n (k + 1) ≡ b → ordered_at area serial l n k ≡ true
      go k true z = rw z refl
      go k false z = ordered-here k (k + 1) refl refl (ahead-shown _ _ _ _ (h k (leb-false n (k + 1) z)))

  -- each entry comes before all later ones
  pub sorted_all : sorted_b area serial l n ≡ true → (m j : ℕ) → j < m → m < n → InOrder area serial l j m
  sorted_all e zero j h k = absurd (not-suc-le-zero h)
  sorted_all e (suc m) j h k = go (ℕ_discrete j m) (sorted_all e m j)
    where
      next : InOrder area serial l m (suc m)
      next = rw (add-one m) at (sorted-says e m (omega arith))

      go : Dec (j ≡ m) → (j < m → m < n → InOrder area serial l j m) → InOrder area serial l j (suc m)
      go (yes z) ih = rw z next
      go (no z) ih = ahead-trans _ _ _ _ _ _ (ih (omega arith) (omega arith)) next
