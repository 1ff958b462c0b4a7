-- The turns of the loops along what goes: one place more is unlinked, one area more is added. They rest on `entries`, which adds at the end.
-- Assumes nothing.
use mathlib.Core.Path.{◌≡◌, refl}
use mathlib.Core.List.{List, [], ◌∷◌, ◌++◌}
use Prim.Native.Nat.{ℕ, zero, suc, ◌+◌, ◌<◌, ◌≤◌}
use native.Mathlib.Numerals.{add-one}
use native.Mathlib.Omega.{arith}
use native.Mathlib.Decide.{ℕ_discrete}
use lib.ListN.{get_or, length, take}
use lib.Seq.{get_or-take}
use Rattle.std.proofs.lemmas.List.{length-take, length-take-le}
use Rattle.table.specs.declared.Node.{Node}
use Rattle.table.specs.Table.{at, unlink}
use Rattle.table.specs.Steps.{unlink_all}
use Rattle.removal.specs.Going.{area_along, area_if_part}
use Rattle.removal.specs.Inner.{Goes}
use Rattle.lists.specs.Lists.{entries}

-- ---- the places, as the loops have them

module _ (l : List ℕ) (n i : ℕ) where
  -- one whose turn is to come stands in the array
  pub turn_of : i < length (take n l) → (i < n) × (get_or (take n l) i 0 ≡ get_or l i 0)
  turn_of h = let low : i < n = omega (arith, length-take n l) in (low, get_or-take n l i 0 low)

  -- and all have had it at the end
  pub turns-end : n ≤ length l → i ≤ length (take n l) → length (take n l) ≤ i → i ≡ n
  turns-end few a b = omega (arith, length-take-le n l few)

-- ---- unlinking

module _ (limit : ℕ) where
  unlink-append : (t : List Node) (a b : List ℕ) → unlink_all limit t (a ++ b) ≡ unlink_all limit (unlink_all limit t a) b
  unlink-append t [] b = refl
  unlink-append t (p ∷ a) b = unlink-append (unlink limit t p) a b

  goes-append : (t : List Node) (a b : List ℕ) → Goes limit t (a ++ b) → Goes limit t a × Goes limit (unlink_all limit t a) b
  goes-append t [] b g = (tt, g)
  goes-append t (p ∷ a) b g = let r = goes-append (unlink limit t p) a b g.2 in ((g.0, g.1, r.0), r.1)

  module _ (t : List Node) (l : List ℕ) where
    pub unlink-more : (i : ℕ) → unlink_all limit t (entries (i + 1) l) ≡ unlink limit (unlink_all limit t (entries i l)) (get_or l i 0)
    unfolding entries
    unlink-more i = rw (add-one i) (unlink-append t (entries i l) (get_or l i 0 ∷ []))

    -- each entry can be unlinked when its turn comes
    abbrev Turn : ℕ → Type 0
    Turn i = (get_or l i 0 < limit) × ((at (unlink_all limit t (entries i l)) (get_or l i 0)).parent < limit)

    pub goes_at : (n i : ℕ) → i < n → Goes limit t (entries n l) → Turn i
    unfolding entries
    goes_at zero i h g = let none : ⊥ = omega arith in absurd none
    goes_at (suc n) i h g = go (ℕ_discrete i n) (goes-append t (entries n l) (get_or l n 0 ∷ []) g) (goes_at n i)
      where
        go : Dec (i ≡ n) → Goes limit t (entries n l) × Goes limit (unlink_all limit t (entries n l)) (get_or l n 0 ∷ [])
            → (i < n → Goes limit t (entries n l) → Turn i) → Turn i
        go (yes e) s ih = rw e (s.1.0, s.1.1)
        go (no e) s ih = ih (omega arith) s.0

-- ---- the areas

module _ (t : List Node) where
  area-append : (a b : List ℕ) → area_along t (a ++ b) ≡ area_along t a + area_along t b
  area-append [] b = omega arith
  area-append (p ∷ a) b = let h = area-append a b in omega arith

  module _ (l : List ℕ) where
    abbrev area_of : ℕ → ℕ
    area_of i = area_if_part (at t (get_or l i 0)).datum

    pub area-more : (i : ℕ) → area_along t (entries (i + 1) l) ≡ area_along t (entries i l) + area_of i
    unfolding entries
    area-more i = rw (add-one i) (let h = area-append (entries i l) (get_or l i 0 ∷ []) in omega arith)

    -- the sum with one entry more is at most the whole
    pub area-most : (n i : ℕ) → i < n → area_along t (entries i l) + area_of i ≤ area_along t (entries n l)
    area-most zero i h = let none : ⊥ = omega arith in absurd none
    area-most (suc n) i h = go (ℕ_discrete i n) (rw (add-one n) at (area-more n)) (area-most n i)
      where
        go : Dec (i ≡ n) → area_along t (entries (suc n) l) ≡ area_along t (entries n l) + area_of n
            → (i < n → area_along t (entries i l) + area_of i ≤ area_along t (entries n l))
            → area_along t (entries i l) + area_of i ≤ area_along t (entries (suc n) l)
        go (yes e) f ih = rw (e, f) (omega arith)
        go (no e) f ih = let z = ih (omega arith) in omega arith
