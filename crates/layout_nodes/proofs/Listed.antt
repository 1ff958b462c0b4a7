-- A list of places as the code holds it: what `Kept` says of it, and each step on its array as the step on its entries (specs/ListSteps.antt of crate `tree`).
-- It rests on what `lists` says of padded lists and of searches. Assumes nothing.
use mathlib.Core.Path.{◌≡◌, refl, sym, ap, ◌∙◌}
use mathlib.Core.List.{List, [], ◌∷◌, ◌++◌, append-nil}
use mathlib.Core.Bool.{Bool}
use Prim.Native.Nat.{ℕ, zero, suc, ◌+◌, ◌-◌, ◌≤◌, ◌<◌}
use native.Mathlib.Nat.{le_refl}
use native.Mathlib.Numerals.{add-one}
use native.Mathlib.Omega.{arith}
use native.Mathlib.Decide.{dec_lt}
use lib.Dec.{ltb}
use lib.ListN.{get_or, set, length, length-append, drop_of_length-le}
use lib.Seq.{take_all}
use borrow.Author.Tests.{lt-ltb, le-ltb}
use Rattle.tree.specs.ListSteps.{spot, omit, strike, push, berth, put, omit_all, strike_all}
use Rattle.lists.specs.Lists.{limit, padded, put_in, take_out, swap_out, swapped, entries}
use Rattle.lists.specs.Search.{first_from, index_of}
use Rattle.lists.proofs.Scan.{first-most}
use Rattle.lists.proofs.Padded.{get_or-padded, take-padded, put-in-length, put-in-padded, take-out-length, take-out-padded}
use Rattle.lists.proofs.Padded.{swapped-length, swap-out-padded, append-padded}
use Rattle.layout_nodes.specs.declared.listing.Listing.{Listing}
use Rattle.layout_nodes.specs.Listings.{listing, entries_of, Kept}

-- ---- a list that is held so

pub entries-listing : (xs : List ℕ) → entries_of (listing xs) ≡ xs
entries-listing xs = take-padded limit xs

pub kept-listing : (xs : List ℕ) → length xs ≤ limit → Kept (listing xs)
kept-listing xs h = record { room = h; zeros = ap listing (sym (entries-listing xs)) }

module _ {l : Listing} (k : Kept l) where
  pub length-entries : length (entries_of l) ≡ l.count
  length-entries = sym (ap (λ (m : Listing). m.count) k.zeros)

  pub room-entries : length (entries_of l) ≤ limit
  room-entries = rw length-entries k.room

  pub padded-entries : l.list ≡ padded limit (entries_of l)
  padded-entries = ap (λ (m : Listing). m.list) k.zeros

  pub get_or-entries : (i : ℕ) → get_or l.list i 0 ≡ get_or (entries_of l) i 0
  get_or-entries i = ap (λ (r : List ℕ). get_or r i 0) padded-entries ∙ get_or-padded limit (entries_of l) i

-- of what a call says that it returns
module _ {l : Listing} (xs : List ℕ) (e : l ≡ listing xs) where
  pub entries-are : entries_of l ≡ xs
  entries-are = ap entries_of e ∙ entries-listing xs

  pub kept-as : length xs ≤ limit → Kept l
  kept-as h = rw e (kept-listing xs h)

-- ---- what a step leaves

-- two tests that agree have the same answer
first-same : (f g : ℕ → Bool) → ((i : ℕ) → f i ≡ g i) → (n i : ℕ) → first_from f n i ≡ first_from g n i
unfolding first_from
first-same f g e zero i = refl
first-same f g e (suc n) i = rw (e i, first-same f g e n (i + 1)) refl

module _ (xs : List ℕ) (p : ℕ) where
  -- the zeros behind the entries are not looked at
  spot-padded : index_of (padded limit xs) (length xs) p ≡ spot xs p
  unfolding index_of
  spot-padded = first-same _ _ (λ i. rw (get_or-padded limit xs i) refl) (length xs) 0

  pub cut-length : spot xs p < length xs → length (omit xs p) ≡ length xs - 1
  unfolding omit
  cut-length h = take-out-length limit xs (spot xs p) h

  pub cut-missing : length xs ≤ spot xs p → omit xs p ≡ xs
  unfolding omit
  cut-missing h = rw (take_all (spot xs p) xs h, drop_of_length-le xs {i = spot xs p + 1} (omega arith)) (append-nil xs)

  pub strike-missing : length xs ≤ spot xs p → strike xs p ≡ xs
  unfolding strike
  strike-missing h = rw (le-ltb (spot xs p) (length xs) h) refl

  pub strike-found : spot xs p < length xs → strike xs p ≡ swapped xs (spot xs p)
  unfolding strike
  strike-found h = rw (lt-ltb (spot xs p) (length xs) h) refl

  pub strike-length : spot xs p < length xs → length (strike xs p) ≡ length xs - 1
  strike-length h = rw (strike-found h) (swapped-length limit xs (spot xs p))

  pub cut-length-most : length (omit xs p) ≤ length xs
  cut-length-most = go (dec_lt (spot xs p) (length xs))
    where
      go : Dec (spot xs p < length xs) → length (omit xs p) ≤ length xs
      go (yes h) = let e = cut-length h in omega arith
      go (no h) = let m : length xs ≤ spot xs p = omega arith in omega (arith, ap length (cut-missing m))

  pub strike-length-most : length (strike xs p) ≤ length xs
  strike-length-most = go (dec_lt (spot xs p) (length xs))
    where
      go : Dec (spot xs p < length xs) → length (strike xs p) ≤ length xs
      go (yes h) = let e = strike-length h in omega arith
      go (no h) = let m : length xs ≤ spot xs p = omega arith in omega (arith, ap length (strike-missing m))

  pub push-length : length (push xs p) ≡ length xs + 1
  push-length = length-append xs (p ∷ [])

-- the entry at i has a smaller area than this
abbrev pub smaller_in : (ℕ → ℕ) → List ℕ → ℕ → ℕ → Bool
smaller_in areas xs area i = ltb (areas (get_or xs i 0)) area

module _ (areas : ℕ → ℕ) (xs : List ℕ) (p : ℕ) where
  pub berth-most : berth areas xs p ≤ length xs
  unfolding berth
  berth-most = let h = first-most (smaller_in areas xs (areas p)) (length xs) 0 in omega arith

  pub put-length : length (put areas xs p) ≡ length xs + 1
  unfolding put
  put-length = put-in-length limit xs (berth areas xs p) p berth-most

-- ---- the steps of the code, on a list that is held so

-- the padded entries, and how many they are, are the list
held : (xs : List ℕ) {list : List ℕ} {n : ℕ} → list ≡ padded limit xs → n ≡ length xs → record { list = list; count = n } ≡ listing xs
held xs e f = rw (e, f) refl

module _ {l : Listing} (k : Kept l) (p : ℕ) where
  -- the search in the array finds the place where it stands in the list
  spot-entries : index_of l.list l.count p ≡ spot (entries_of l) p
  spot-entries =
      let a = padded-entries k in
      let b = length-entries k in
      let c : index_of l.list l.count p ≡ index_of (padded limit (entries_of l)) (length (entries_of l)) p = cc in
      c ∙ spot-padded (entries_of l) p

  module _ {i : ℕ} (at : i ≡ index_of l.list l.count p) where
    at-spot : i ≡ spot (entries_of l) p
    at-spot = at ∙ spot-entries

    -- the place is not there
    pub cut-none : l.count ≤ i → l ≡ listing (omit (entries_of l) p)
    cut-none h =
        let e = at-spot in
        let n = length-entries k in
        k.zeros ∙ ap listing (sym (cut-missing (entries_of l) p (omega arith)))

    pub strike-none : l.count ≤ i → l ≡ listing (strike (entries_of l) p)
    strike-none h =
        let e = at-spot in
        let n = length-entries k in
        k.zeros ∙ ap listing (sym (strike-missing (entries_of l) p (omega arith)))

    -- the place is there
    module _ (h : i < l.count) where
      here : spot (entries_of l) p < length (entries_of l)
      here = let e = at-spot in let n = length-entries k in omega arith

      pub cut-one : {list : List ℕ} → list ≡ take_out l.list l.count i
          → record { list = list; count = l.count - 1 } ≡ listing (omit (entries_of l) p)
      unfolding omit
      cut-one e =
          let xs = entries_of l in
          let a = padded-entries k in
          let b = length-entries k in
          let c = at-spot in
          let d : take_out l.list l.count i ≡ take_out (padded limit xs) (length xs) (spot xs p) = cc in
          held (omit xs p) (e ∙ d ∙ take-out-padded limit xs (spot xs p) here (room-entries k)) (omega (arith, cut-length xs p here))

      pub strike-one : {list : List ℕ} → list ≡ swap_out l.list l.count i
          → record { list = list; count = l.count - 1 } ≡ listing (strike (entries_of l) p)
      strike-one e =
          let xs = entries_of l in
          let a = padded-entries k in
          let b = length-entries k in
          let c = at-spot in
          let d : swap_out l.list l.count i ≡ swap_out (padded limit xs) (length xs) (spot xs p) = cc in
          held
          (strike xs p)
          (e ∙ d ∙ swap-out-padded limit xs (spot xs p) here (room-entries k) ∙ ap (padded limit) (sym (strike-found xs p here)))
          (omega (arith, strike-length xs p here))

  -- the place is put behind the entries
  pub push-one : l.count < limit → record { list = set l.list l.count p; count = l.count + 1 } ≡ listing (push (entries_of l) p)
  unfolding put_in
  push-one h =
      let xs = entries_of l in
      let a = padded-entries k in
      let b = length-entries k in
      let c : set l.list l.count p ≡ set (padded limit xs) (length xs) p = cc in
      let z : length xs - length xs ≡ 0 = omega arith in
      held (push xs p) (c ∙ (rw z at (append-padded limit xs p (omega arith)))) (omega (arith, push-length xs p))

  module _ (areas : ℕ → ℕ) where
    -- the search in the array finds the index that is meant in the list
    pub berth-entries : {area : ℕ} → area ≡ areas p → first_from (smaller_in areas l.list area) l.count 0 ≡ berth areas (entries_of l) p
    unfolding berth
    berth-entries e =
        first-same _ (smaller_in areas (entries_of l) (areas p)) (λ i. rw (get_or-entries k i, e) refl) l.count 0
        ∙ ap (λ (n : ℕ). first_from (smaller_in areas (entries_of l) (areas p)) n 0) (sym (length-entries k))

    -- the place is put in there
    pub put_one : {i : ℕ} {list : List ℕ} → i ≡ berth areas (entries_of l) p → l.count < limit → list ≡ put_in l.list l.count i p
        → record { list = list; count = l.count + 1 } ≡ listing (put areas (entries_of l) p)
    unfolding put
    put_one {i} f h e =
        let xs = entries_of l in
        let a = padded-entries k in
        let b = length-entries k in
        let m = berth-most areas xs p in
        let d : put_in l.list l.count i p ≡ put_in (padded limit xs) (length xs) (berth areas xs p) p = cc in
        held (put areas xs p) (e ∙ d ∙ put-in-padded limit xs (berth areas xs p) p m (omega arith)) (omega (arith, put-length areas xs p))

-- ---- several places, one after the other: the loops of the code

-- `all` makes the step for one place after the other, and the step does not lengthen a list
pub record OneByOne (step : List ℕ → ℕ → List ℕ) (all : List ℕ → List ℕ → List ℕ) : Type 0 where
  pub none : (xs : List ℕ) → all xs [] ≡ xs
  pub more : (xs ps : List ℕ) (p : ℕ) → all xs (p ∷ ps) ≡ all (step xs p) ps
  pub most : (xs : List ℕ) (p : ℕ) → length (step xs p) ≤ length xs

pub cut-each : OneByOne omit omit_all
cut-each = record { none = λ xs. refl; more = λ xs ps p. refl; most = cut-length-most }

pub strike-each : OneByOne strike strike_all
strike-each = record { none = λ xs. refl; more = λ xs ps p. refl; most = strike-length-most }

-- l is what the first i places of the order leave of xs
pub record Left (all : List ℕ → List ℕ → List ℕ) (xs order : List ℕ) (i : ℕ) (l : Listing) : Type 0 where
  pub kept : Kept l
  pub left : entries_of l ≡ all xs (entries i order)

module _ {step : List ℕ → ℕ → List ℕ} {all : List ℕ → List ℕ → List ℕ} (each : OneByOne step all) where
  pub all-last : (xs ps : List ℕ) (p : ℕ) → all xs (ps ++ (p ∷ [])) ≡ step (all xs ps) p
  all-last xs [] p = each.more xs [] p ∙ each.none (step xs p) ∙ ap (λ (r : List ℕ). step r p) (sym (each.none xs))
  all-last xs (q ∷ ps) p =
      each.more xs (ps ++ (p ∷ [])) q ∙ all-last (step xs q) ps p ∙ ap (λ (r : List ℕ). step r p) (sym (each.more xs ps q))

  pub all-length-most : (xs ps : List ℕ) → length (all xs ps) ≤ length xs
  all-length-most xs [] = rw (each.none xs) (le_refl (length xs))
  all-length-most xs (p ∷ ps) =
      let a = each.most xs p in
      let b = all-length-most (step xs p) ps in
      rw (each.more xs ps p) (omega arith)

  module _ (order : List ℕ) where
    pub left-start : {l : Listing} → Kept l → Left all (entries_of l) order 0 l
    unfolding entries
    left-start {l} k = record { kept = k; left = sym (each.none (entries_of l)) }

    module _ {xs : List ℕ} {i : ℕ} {l : Listing} (w : Left all xs order i l) where
      pub left-more : {m : Listing} → m ≡ listing (step (entries_of l) (get_or order i 0)) → Left all xs order (i + 1) m
      unfolding entries
      left-more e =
          let ys = step (entries_of l) (get_or order i 0) in
          let r = room-entries w.kept in
          let n = each.most (entries_of l) (get_or order i 0) in
          record {
            kept = kept-as ys e (omega arith);
            left = entries-are ys e ∙ rw (w.left, add-one i) (sym (all-last xs (entries i order) (get_or order i 0)));
          }

      pub left_end : {n : ℕ} → i ≡ n → l ≡ listing (all xs (entries n order))
      left_end e = w.kept.zeros ∙ ap listing (w.left ∙ ap (λ (m : ℕ). all xs (entries m order)) e)
