-- The flags of the places that a list names: how the loop sets them, and what they say. Assumes nothing.
use mathlib.Core.Path.{◌≡◌, refl, sym, ap, ◌∙◌}
use mathlib.Core.List.{List}
use mathlib.Core.Bool.{Bool, true, false, cond, ◌&&◌}
use Rattle.std.specs.Prelude.{Some, None}
use mathlib.Core.Logic.{◌⊎◌, inl, inr}
use Prim.Native.Nat.{ℕ, zero, suc, ◌+◌, ◌≤◌, ◌<◌}
use native.Mathlib.Nat.{not-suc-le-zero, add-zero}
use native.Mathlib.Numerals.{add-one}
use native.Mathlib.Omega.{arith}
use native.Mathlib.Decide.{ℕ_discrete, dec_lt}
use lib.Dec.{eqb, ltb, leb}
use lib.ListN.{length, get_or, set, length-set, length-replicate, get_or-replicate}
use lib.Seq.{get_or-set_same, get_or-set_other, ext_get_or}
use borrow.Author.Tests.{eq-eqb, ne_eqb, lt-ltb, le-ltb, le-leb, lt-leb, leb-true, ltb-true, eqb-true, not-false}
use Rattle.lists.specs.Lists.{limit, zeros}
use Rattle.lists.specs.Search.{every}
use Rattle.lists.specs.Flags.{other_at, unnamed, new_at, ok_b, column, flag_at, flags_of, flagged}
use Rattle.lists.proofs.Scan.{test, clash, and_left, and_right, and-false, every-none, every-all, every-fails, every-at, every-missing}

-- ---- a column of values

pub length-column : (f : ℕ → ℕ) (n i : ℕ) → length (column f n i) ≡ n
unfolding column
length-column f zero i = refl
length-column f (suc n) i = ap suc (length-column f n (i + 1))

pub get_or-column : (f : ℕ → ℕ) (n i j : ℕ) → j < n → get_or (column f n i) j 0 ≡ f (i + j)
unfolding column
get_or-column f zero i j h = absurd (not-suc-le-zero h)
get_or-column f (suc n) i zero h = ap f (sym (add-zero i))
get_or-column f (suc n) i (suc j) h = get_or-column f n (i + 1) j (omega arith) ∙ ap f (omega arith)

-- ---- one entry

-- a place that one of the first n entries names, and one that none names
pub named-at : (l : List ℕ) (n p j : ℕ) → j < n → get_or l j 0 ≡ p → unnamed l n p ≡ false
named-at l n p j h e = every-fails (other_at l p) n j h (rw (eq-eqb p (get_or l j 0) (sym e)) refl)

pub named-nowhere : (l : List ℕ) (n p : ℕ) → ((j : ℕ) → j < n → get_or l j 0 ≡ p → ⊥) → unnamed l n p ≡ true
named-nowhere l n p m = every-all (other_at l p) n (λ j h. rw (ne_eqb p (get_or l j 0) (λ e. m j h (sym e))) refl)

-- and back: where a place is unnamed, each entry is another
pub unnamed-at : (l : List ℕ) (n p j : ℕ) → unnamed l n p ≡ true → j < n → get_or l j 0 ≡ p → ⊥
unnamed-at l n p j u h e = clash (sym (named-at l n p j h e) ∙ u)

unnamed-more : (l : List ℕ) (i p : ℕ) → (p ≡ get_or l i 0 → ⊥) → unnamed l (i + 1) p ≡ unnamed l i p
unfolding every
unnamed-more l i p m = rw (add-one i, ne_eqb p (get_or l i 0) m) (and-true (unnamed l i p))
  where
    and-true : (b : Bool) → (b && true) ≡ b
    and-true true = refl
    and-true false = refl

-- ---- the loop

-- the flags of the first i entries stand, and no others
pub record Flagged (bound : ℕ) (l flag : List ℕ) (i : ℕ) : Type 0 where
  pub size : length flag ≡ bound
  pub at : (p : ℕ) → p < bound → get_or flag p 0 ≡ flag_at l i p

module _ (bound : ℕ) (l : List ℕ) where
  pub flagged-none : Flagged bound l (zeros bound) 0
  flagged-none = record { size = length-replicate bound 0; at = λ p h. rw (every-none (other_at l p)) (get_or-replicate bound p 0 0 h) }

  -- what the flag of the entry at i says of those before it
  pub flag-stands : (flag : List ℕ) (i : ℕ) → Flagged bound l flag i → get_or l i 0 < bound → get_or flag (get_or l i 0) 0 ≡ 1
      → new_at bound l i ≡ false
  flag-stands flag i s h e =
      and-false (ltb (get_or l i 0) bound) (unnamed l i (get_or l i 0))
      (go (unnamed l i (get_or l i 0)) (sym (s.at (get_or l i 0) h) ∙ e))
    where
      go : (b : Bool) → ◌≡◌ {A = ℕ} (cond b 0 1) 1 → b ≡ false
      go true z = absurd (no z)
        where
          no : ◌≡◌ {A = ℕ} 0 1 → ⊥
          no z = omega arith
      go false z = refl

  pub flag-missing : (flag : List ℕ) (i : ℕ) → Flagged bound l flag i → get_or l i 0 < bound → (get_or flag (get_or l i 0) 0 ≡ 1 → ⊥)
      → new_at bound l i ≡ true
  flag-missing flag i s h m =
      rw (lt-ltb (get_or l i 0) bound h)
      (go (unnamed l i (get_or l i 0)) (λ z. m (s.at (get_or l i 0) h ∙ z)))
    where
      go : (b : Bool) → (◌≡◌ {A = ℕ} (cond b 0 1) 1 → ⊥) → b ≡ true
      go true z = refl
      go false z = absurd (z refl)

  pub past_bound : (i : ℕ) → bound ≤ get_or l i 0 → new_at bound l i ≡ false
  past_bound i h = rw (le-ltb (get_or l i 0) bound h) refl

  pub flagged-more : (flag : List ℕ) (i : ℕ) → Flagged bound l flag i → get_or l i 0 < bound
      → Flagged bound l (set flag (get_or l i 0) 1) (i + 1)
  flagged-more flag i s h =
      record {
        size = length-set flag (get_or l i 0) 1 ∙ s.size;
        at = λ p b. go p b (ℕ_discrete p (get_or l i 0));
      }
    where
      go : (p : ℕ) → p < bound → Dec (p ≡ get_or l i 0) → get_or (set flag (get_or l i 0) 1) p 0 ≡ flag_at l (i + 1) p
      go p b (yes e) =
          let z = s.size in
          rw (named-at l (i + 1) p i (omega arith) (sym e), e) (get_or-set_same flag (get_or l i 0) 1 0 (omega arith))
      go p b (no m) = get_or-set_other flag (get_or l i 0) p 1 0 m ∙ s.at p b ∙ ap (λ (t : Bool). cond t 0 1) (sym (unnamed-more l i p m))

  -- ---- the answer

  pub too_long : (n : ℕ) → bound < n → ok_b bound l n ≡ false
  unfolding ok_b
  too_long n h = rw (lt-leb n bound h) refl

  pub not_new : (n i : ℕ) → i < n → new_at bound l i ≡ false → ok_b bound l n ≡ false
  unfolding ok_b
  not_new n i h e = and-false (leb n bound) (every (new_at bound l) n) (every-fails (new_at bound l) n i h e)

  pub all_new : (n : ℕ) → n ≤ bound → every (new_at bound l) n ≡ true → ok_b bound l n ≡ true
  unfolding ok_b
  all_new n h e = rw (le-leb n bound h, e) refl

  pub flags-column : (n : ℕ) → ok_b bound l n ≡ true → flags_of bound l n ≡ column (flag_at l n) bound 0
  unfolding flags_of
  flags-column n e = rw e refl

  pub flags-all : (flag : List ℕ) (n : ℕ) → ok_b bound l n ≡ true → Flagged bound l flag n → flag ≡ flags_of bound l n
  flags-all flag n e s =
      ext_get_or 0 flag (column (flag_at l n) bound 0)
      (s.size ∙ sym (length-column (flag_at l n) bound 0))
      (λ i h. let z = s.size in one i (omega arith))
      ∙ sym (flags-column n e)
    where
      one : (i : ℕ) → i < bound → get_or flag i 0 ≡ get_or (column (flag_at l n) bound 0) i 0
      one i h = s.at i h ∙ ap (flag_at l n) (omega arith) ∙ sym (get_or-column (flag_at l n) bound 0 i h)

-- the answer of a list that is not as it should be, and of one that is
pub refused : (l : List ℕ) (n : ℕ) → ok_b limit l n ≡ false → None ≡ flagged l n
refused l n e = rw e refl

pub accepted : (l : List ℕ) (n : ℕ) {flag : List ℕ} → ok_b limit l n ≡ true → flag ≡ flags_of limit l n → Some flag ≡ flagged l n
accepted l n e f = rw (e, f) refl

-- and back: a list that has no flags is not as it should be, and one that has is
pub refused-says : (l : List ℕ) (n : ℕ) → None ≡ flagged l n → ok_b limit l n ≡ false
refused-says l n e = go (ok_b limit l n) refl e
  where
    go : (b : Bool) → ok_b limit l n ≡ b → None ≡ cond b (Some (flags_of limit l n)) None → ok_b limit l n ≡ false
    go true q e = cc
    go false q e = q

pub accepted-says : (l : List ℕ) (n : ℕ) {flag : List ℕ} → Some flag ≡ flagged l n → (ok_b limit l n ≡ true) × (flag ≡ flags_of limit l n)
accepted-says l n {flag} e = go (ok_b limit l n) refl e
  where
    go : (b : Bool) → ok_b limit l n ≡ b → Some flag ≡ cond b (Some (flags_of limit l n)) None → (ok_b limit l n ≡ true) × (flag ≡ flags_of limit l n)
    go true q e = (q, cc)
    go false q e = absurd (no e)
      where
        no : Some flag ≡ None → ⊥
        no e = cc

-- ---- what the answer says

module _ (bound : ℕ) (l : List ℕ) (n : ℕ) where
  -- a list is as it should be exactly if its entries are there, are below the bound and differ
  pub ok-all : n ≤ bound → ((i : ℕ) → i < n → get_or l i 0 < bound)
      → ((i j : ℕ) → i < n → j < n → get_or l i 0 ≡ get_or l j 0 → i ≡ j) → ok_b bound l n ≡ true
  ok-all h below differ = all_new bound l n h (every-all (new_at bound l) n new)
    where
      apart : (i j : ℕ) → i < n → j < i → get_or l j 0 ≡ get_or l i 0 → ⊥
      apart i j a b e = let q = differ j i (omega arith) a e in omega arith

      new : (i : ℕ) → i < n → new_at bound l i ≡ true
      new i a = rw (lt-ltb (get_or l i 0) bound (below i a)) (named-nowhere l i (get_or l i 0) (λ j b. apart i j a b))

  module _ (ok : ok_b bound l n ≡ true) where
    pub ok-count : n ≤ bound
    unfolding ok_b
    ok-count = leb-true n bound (and_left (leb n bound) (every (new_at bound l) n) ok)

    ok-new : (i : ℕ) → i < n → new_at bound l i ≡ true
    unfolding ok_b
    ok-new i h = every-at (new_at bound l) n i (and_right (leb n bound) (every (new_at bound l) n) ok) h

    pub ok-below : (i : ℕ) → i < n → get_or l i 0 < bound
    ok-below i h = ltb-true (get_or l i 0) bound (and_left (ltb (get_or l i 0) bound) (unnamed l i (get_or l i 0)) (ok-new i h))

    ok-before : (i j : ℕ) → i < n → j < i → get_or l j 0 ≡ get_or l i 0 → ⊥
    ok-before i j h b e =
        unnamed-at l i (get_or l i 0) j (and_right (ltb (get_or l i 0) bound) (unnamed l i (get_or l i 0)) (ok-new i h)) b e

    pub ok-differ : (i j : ℕ) → i < n → j < n → get_or l i 0 ≡ get_or l j 0 → i ≡ j
    ok-differ i j a b e = go (ℕ_discrete i j) (dec_lt i j)
      where
        go : Dec (i ≡ j) → Dec (i < j) → i ≡ j
        go (yes q) d = q
        go (no q) (yes d) = absurd (ok-before j i b d e)
        go (no q) (no d) = absurd (ok-before i j a (omega arith) (sym e))

    -- the flag of a place
    pub flag_is : (p : ℕ) → p < bound → get_or (flags_of bound l n) p 0 ≡ flag_at l n p
    flag_is p h = rw (flags-column bound l n ok) (get_or-column (flag_at l n) bound 0 p h ∙ ap (flag_at l n) (omega arith))

    -- it is 1 exactly if an entry names the place, and else 0
    pub flag-named : (p i : ℕ) → p < bound → i < n → get_or l i 0 ≡ p → get_or (flags_of bound l n) p 0 ≡ 1
    flag-named p i h b e = flag_is p h ∙ rw (named-at l n p i b e) refl

    pub flag_one : (p : ℕ) → p < bound → get_or (flags_of bound l n) p 0 ≡ 1 → (i : ℕ) × (i < n) × (get_or l i 0 ≡ p)
    flag_one p h e = go (test (unnamed l n p))
      where
        no : unnamed l n p ≡ true → ⊥
        no t =
            let z : flag_at l n p ≡ 0 = rw t refl in
            let y = flag_is p h in
            omega arith

        go : (unnamed l n p ≡ true) ⊎ (unnamed l n p ≡ false) → (i : ℕ) × (i < n) × (get_or l i 0 ≡ p)
        go (inl t) = absurd (no t)
        go (inr t) =
            let w = every-missing (other_at l p) n t in
            (w.0, w.1, sym (eqb-true p (get_or l w.0 0) (not-false (eqb p (get_or l w.0 0)) w.2)))
