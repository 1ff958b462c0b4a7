-- The first entries of an order, what is gathered along them, and how a loop writes that, one entry after the other, over `sets` of lib.Seq.
-- Assumes nothing.
use mathlib.Core.Path.{◌≡◌, refl, sym, ap, ◌∙◌}
use mathlib.Core.List.{List, [], ◌∷◌, ◌++◌, append_assoc, append-nil}
use Prim.Native.Nat.{ℕ, zero, suc, ◌+◌, ◌<◌, ◌≤◌}
use native.Mathlib.Nat.{le_refl}
use native.Mathlib.Numerals.{add-one}
use native.Mathlib.Omega.{arith}
use native.Mathlib.Decide.{ℕ_discrete}
use lib.ListN.{length, get_or, take, drop, length-append, get_or-append}
use lib.Seq.{sets, length-sets, sets-eq, take-suc, take_all, take-append_seam, get_or_at}
use Rattle.walks.specs.Walk.{gathered}
use Rattle.walks.specs.Along.{below}
use Rattle.walks.specs.Inner.{Placed}
use Rattle.lists.specs.Lists.{entries}
use Rattle.walks.proofs.Written.{sets-append}

-- ---- entries

-- of a list that is long enough they are its first ones
pub entries-take : (n : ℕ) (l : List ℕ) → n ≤ length l → entries n l ≡ take n l
unfolding entries
entries-take zero l h = refl
entries-take (suc n) l h = let e : n < length l = omega arith in rw (entries-take n l (omega arith)) (sym (take-suc l n 0 e))

-- what was written from the start on, and how many entries that are, as `order_out` says it
module _ (l vs : List ℕ) {order : List ℕ} {n : ℕ} (written : order ≡ sets l 0 vs) (counted : n ≡ 0 + length vs) (room : length vs ≤ length l) where
  front : order ≡ vs ++ drop (0 + length vs) l
  front = written ∙ sets-eq vs l 0 (omega arith)

  many : n ≡ length vs
  many = omega arith

  -- are the first entries
  pub written-entries : entries n order ≡ vs
  written-entries =
      entries-take n order (omega (arith, ap length written, length-sets l 0 vs))
      ∙ rw (many, front) (take-append_seam vs (drop (0 + length vs) l))

  pub written-placed : (limit : ℕ) → Placed limit (length vs) vs → Placed limit n order
  written-placed limit p i h =
      let z : i < length vs = omega arith in
      rw (front, get_or-append vs (drop (0 + length vs) l) 0 i z) (p i z)

-- ---- the numbers in order

pub length-below : (n : ℕ) → length (below n) ≡ n
unfolding below
length-below zero = refl
length-below (suc n) = let h = length-below n in omega (arith, length-append (below n) (n ∷ []))

pub below_more : (n : ℕ) → below (n + 1) ≡ below n ++ (n ∷ [])
unfolding below
below_more n = rw (add-one n) refl

pub entries_below : (n : ℕ) → entries n (below n) ≡ below n
entries_below n =
    let e = length-below n in
    entries-take n (below n) (omega arith) ∙ take_all n (below n) (omega arith)

get_or-below : (n i : ℕ) → i < n → get_or (below n) i 0 ≡ i
unfolding below
get_or-below zero i h = let none : ⊥ = omega arith in absurd none
get_or-below (suc n) i h = go (ℕ_discrete i n) (get_or-below n i)
  where
    go : Dec (i ≡ n) → (i < n → get_or (below n) i 0 ≡ i) → get_or (below n ++ (n ∷ [])) i 0 ≡ i
    go (yes e) ih = get_or_at (below n) n [] 0 i (length-below n ∙ sym e) ∙ sym e
    go (no e) ih = get_or-append (below n) (n ∷ []) 0 i (omega (arith, length-below n)) ∙ ih (omega arith)

pub placed_below : (n : ℕ) → Placed n n (below n)
placed_below n i h = rw (get_or-below n i h) h

-- ---- what is gathered

module _ (g : ℕ → List ℕ) where
  pub gathered-append : (a b : List ℕ) → gathered g (a ++ b) ≡ gathered g a ++ gathered g b
  gathered-append [] b = refl
  gathered-append (c ∷ a) b =
      ap (λ (z : List ℕ). g c ++ z) (gathered-append a b) ∙ sym (append_assoc (g c) (gathered g a) (gathered g b))

  -- along one place more
  pub gathered-last : (a : List ℕ) (p : ℕ) → gathered g (a ++ (p ∷ [])) ≡ gathered g a ++ g p
  gathered-last a p = gathered-append a (p ∷ []) ∙ ap (λ (z : List ℕ). gathered g a ++ z) (append-nil (g p))

  -- along one entry more
  gathered-more : (l : List ℕ) (i : ℕ) → gathered g (entries (i + 1) l) ≡ gathered g (entries i l) ++ g (get_or l i 0)
  unfolding entries
  gathered-more l i = rw (add-one i) (gathered-last (entries i l) (get_or l i 0))

  pub length_more : (l : List ℕ) (i : ℕ)
      → length (gathered g (entries (i + 1) l)) ≡ length (gathered g (entries i l)) + length (g (get_or l i 0))
  length_more l i = ap length (gathered-more l i) ∙ length-append (gathered g (entries i l)) (g (get_or l i 0))

  -- along more entries no less
  length_most : (l : List ℕ) (n i : ℕ) → i < n
      → length (gathered g (entries i l)) + length (g (get_or l i 0)) ≤ length (gathered g (entries n l))
  length_most l zero i h = let none : ⊥ = omega arith in absurd none
  length_most l (suc n) i h = go (ℕ_discrete i n) (rw (add-one n) at (length_more l n)) (length_most l n i)
    where
      go : Dec (i ≡ n) → length (gathered g (entries (suc n) l)) ≡ length (gathered g (entries n l)) + length (g (get_or l n 0))
          → (i < n → length (gathered g (entries i l)) + length (g (get_or l i 0)) ≤ length (gathered g (entries n l)))
          → length (gathered g (entries i l)) + length (g (get_or l i 0)) ≤ length (gathered g (entries (suc n) l))
      go (yes e) f ih = rw (e, f) (le_refl _)
      go (no e) f ih = let z = ih (omega arith) in omega arith

  -- what the first i entries give is written into l₀ from the start on, k numbers in all
  pub record Wrote (order l₀ : List ℕ) (i : ℕ) (l : List ℕ) (k : ℕ) : Type 0 where
    pub written : l ≡ sets l₀ 0 (gathered g (entries i order))
    pub counted : k ≡ length (gathered g (entries i order))

  module _ (order l₀ : List ℕ) where
    pub wrote_none : Wrote order l₀ 0 l₀ 0
    unfolding entries
    wrote_none = record { written = refl; counted = refl }

    module _ (i : ℕ) {k : ℕ} {l : List ℕ} (w : Wrote order l₀ i l k) where
      pub wrote-more : {l' : List ℕ} {k' : ℕ} → l' ≡ sets l k (g (get_or order i 0)) → k' ≡ k + length (g (get_or order i 0))
          → Wrote order l₀ (i + 1) l' k'
      wrote-more e f =
          let a = gathered g (entries i order) in
          let z : 0 + length a ≡ length a = omega arith in
          record {
            written = e ∙ rw (w.written, w.counted, gathered-more order i) (rw z at (sym (sets-append a (g (get_or order i 0)) l₀ 0)));
            counted = f ∙ rw w.counted (sym (length_more order i));
          }

      pub wrote-length : length l ≡ length l₀
      wrote-length = ap length w.written ∙ length-sets l₀ 0 (gathered g (entries i order))

      -- there is room for the next entry, if there is for all
      pub wrote-room : (n : ℕ) → i < n → length (gathered g (entries n order)) ≤ length l₀ → k + length (g (get_or order i 0)) ≤ length l
      wrote-room n h r = omega (arith, wrote-length, length_most order n i h, w.counted)

    -- at the end
    pub wrote-all : (n : ℕ) {i k : ℕ} {l : List ℕ} → i ≡ n → Wrote order l₀ i l k
        → (l ≡ sets l₀ 0 (gathered g (entries n order))) × (k ≡ length (gathered g (entries n order)))
    wrote-all n e w = rw (← e) (w.written, w.counted)
