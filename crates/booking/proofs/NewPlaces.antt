-- The places that new nodes get, found one after the other: how the search goes from each to the next. Assumes nothing.
use mathlib.Core.Path.{◌≡◌, refl, sym, ◌∙◌}
use mathlib.Core.List.{List}
use Prim.Native.Nat.{ℕ, zero, suc, ◌+◌, ◌-◌, ◌≤◌, ◌<◌}
use native.Mathlib.Numerals.{add-one}
use native.Mathlib.Omega.{arith}
use lib.ListN.{length, get_or, set, take, replicate, length-set}
use lib.Seq.{take_all, take-suc, take-suc-set}
use Rattle.lists.specs.Lists.{limit}
use Rattle.lists.proofs.Scan.{first-most}
use Rattle.table.specs.declared.Node.{Node}
use Rattle.table.specs.Unheld.{is_unheld, lowest_from}
use Rattle.booking.specs.Book.{lowest_of, new_places}

module _ (t : List Node) where
  -- where the search for the k-th place begins
  abbrev start : ℕ → ℕ
  start zero = 0
  start (suc k) = lowest_of t k + 1

  lowest_start : (k : ℕ) → lowest_of t k ≡ lowest_from limit t (start k)
  lowest_start zero = refl
  lowest_start (suc k) = refl

  -- a search from within the limit and k more ends within it
  within : (n k : ℕ) → n ≤ limit + k → lowest_from limit t n ≤ limit + k
  unfolding lowest_from
  within n k h = omega (arith, first-most (is_unheld t) (limit - n) n)

  start-most : (k : ℕ) → start k ≤ limit + k
  start-most zero = omega arith
  start-most (suc k) = let h = within (start k) k (start-most k) in omega (arith, lowest_start k)

  entry : (k : ℕ) → k < 5 → get_or (new_places t) k 0 ≡ lowest_of t k
  unfolding new_places
  entry zero h = refl
  entry (suc zero) h = refl
  entry (suc (suc zero)) h = refl
  entry (suc (suc (suc zero))) h = refl
  entry (suc (suc (suc (suc zero)))) h = refl
  entry (suc (suc (suc (suc (suc k))))) h = let no : ⊥ = omega arith in absurd no

  five : length (new_places t) ≡ 5
  unfolding new_places
  five = refl

  -- the first k are found, and the next search begins there
  pub record Found (k : ℕ) (places : List ℕ) (from : ℕ) : Type 0 where
    pub len : length places ≡ 5
    pub front : take k places ≡ take k (new_places t)
    pub next : from ≡ start k

  pub found_none : Found 0 (replicate 5 0) 0
  found_none = record { len = refl; front = refl; next = refl }

  module _ {k : ℕ} {places : List ℕ} {from : ℕ} (f : Found k places from) where
    module _ (h : k < 5) {place : ℕ} (e : place ≡ lowest_from limit t from) where
      place_is : place ≡ lowest_of t k
      place_is = e ∙ rw f.next (sym (lowest_start k))

      pub found-most : place ≤ limit + 5
      found-most = let w = within (start k) k (start-most k) in omega (arith, place_is, lowest_start k)

      pub found-more : Found (k + 1) (set places k place) (place + 1)
      found-more =
          let a : k < length places = omega (arith, f.len) in
          let b : k < length (new_places t) = omega (arith, five) in
          record {
            len = length-set places k place ∙ f.len;
            front = rw (add-one k, take-suc-set places k place a, take-suc (new_places t) k 0 b, f.front, place_is, entry k h) refl;
            next = rw (add-one k, place_is) refl;
          }

    pub found_all : 5 ≤ k → places ≡ new_places t
    found_all h =
        sym (take_all k places (omega (arith, f.len))) ∙ f.front ∙ take_all k (new_places t) (omega (arith, five))
