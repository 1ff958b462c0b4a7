-- Places that are cut out of a list one after the other, in one pass: an entry that comes last, and stands nowhere else, is cut out if it is one
-- of them, and stays where it is if not. Assumes nothing.
use mathlib.Core.Path.{◌≡◌, refl, sym, ap, ◌∙◌}
use mathlib.Core.List.{List, [], ◌∷◌, append_assoc, append-nil}
use mathlib.Core.Logic.{◌⊎◌, inl, inr, ⊎_elim}
use Prim.Native.Nat.{ℕ, suc, ◌+◌, ◌<◌, ◌≤◌}
use native.Mathlib.Numerals.{add-one}
use native.Mathlib.Omega.{arith}
use native.Mathlib.Decide.{dec_lt}
use lib.ListN.{get_or, set, length, take, drop, replicate, length-append, drop_of_length-le, get_or-append}
use lib.Seq.{take-suc, take_all, take-append-le, drop-append-le, get_or-append_seam, get_or-take, length-take-le}
use Rattle.tree.proofs.Rows.{same?}
use Rattle.tree.specs.ListSteps.{Names, omit, omit_all, push, spot}
use Rattle.tree.proofs.ListSteps.{Absent, spot-case, cut-absent, cut-fewer}
use Rattle.lists.specs.Lists.{limit, padded, entries}
use Rattle.lists.specs.Search.{index_of}
use Rattle.lists.proofs.Found.{index-before, index-found, index-holds}
use Rattle.layout_nodes.specs.declared.listing.Listing.{Listing}
use Rattle.layout_nodes.specs.Listings.{Kept, entries_of, listing}
use Rattle.layout_nodes.specs.Spots.{spots_of}
use Rattle.layout_nodes.specs.Inner.{Single}
use Rattle.layout_nodes.proofs.Listed.{cut-each, all-length-most, entries-are, kept-as, push-one, room-entries}
use Rattle.layout_nodes.proofs.Naming.{named, unnamed}
use Rattle.layout_nodes.proofs.Lookup.{spots-at}

-- ---- one place

-- a place is found where it stands and does not stand before
spot_is : (xs : List ℕ) (p k : ℕ) → k < length xs → get_or xs k 0 ≡ p → ((j : ℕ) → j < k → get_or xs j 0 ≡ p → ⊥) → spot xs p ≡ k
spot_is xs p k b e before = go (dec_lt (spot xs p) k)
  where
    go : Dec (spot xs p < k) → spot xs p ≡ k
    go (yes c) = absurd (before (spot xs p) c (index-holds xs (length xs) p (omega arith)))
    go (no c) = let f = index-found xs (length xs) p k b e in omega arith

module _ (y : ℕ) (xs : List ℕ) where
  push-size : length (push xs y) ≡ suc (length xs)
  push-size = let e = length-append xs (y ∷ []) in omega arith

  push-front : (k : ℕ) → k < length xs → get_or (push xs y) k 0 ≡ get_or xs k 0
  push-front k b = get_or-append xs (y ∷ []) 0 k b

  -- the last entry is cut out
  cut-end : Absent y xs → omit (push xs y) y ≡ xs
  unfolding omit
  cut-end absent =
      let n = push-size in
      let s =
      spot_is (push xs y) y (length xs) (omega arith) (get_or-append_seam xs y [] 0) (λ j b e. absent j b (sym (push-front j b) ∙ e))
      in
      rw (s, take-append-le (length xs) xs (y ∷ []) (omega arith), drop_of_length-le (push xs y) {i = length xs + 1} (omega arith))
      (append-nil (take (length xs) xs) ∙ take_all (length xs) xs (omega arith))

  -- another one is cut out before it
  cut-front : (p : ℕ) → (p ≡ y → ⊥) → omit (push xs y) p ≡ push (omit xs p) y
  unfolding omit
  cut-front p other = ⊎_elim (λ s. there s.0 s.1) (λ a. cut-absent (push xs y) p (nowhere a) ∙ rw (cut-absent xs p a) refl) (spot-case xs p)
    where
      there : spot xs p < length xs → get_or xs (spot xs p) 0 ≡ p → omit (push xs y) p ≡ push (omit xs p) y
      there b e =
          let k = spot xs p in
          let n = push-size in
          let s =
          spot_is (push xs y) p k (omega arith) (push-front k b ∙ e)
          (λ j c f. index-before xs (length xs) p j c (sym (push-front j (omega arith)) ∙ f))
          in
          rw (s, take-append-le k xs (y ∷ []) (omega arith), drop-append-le (k + 1) xs (y ∷ []) (omega arith))
          (sym (append_assoc (take k xs) (drop (k + 1) xs) (y ∷ [])))

      nowhere : Absent p xs → Absent p (push xs y)
      nowhere a k b e = go (dec_lt k (length xs))
        where
          go : Dec (k < length xs) → ⊥
          go (yes c) = a k c (sym (push-front k c) ∙ e)
          go (no c) =
              let n = push-size in
              let z : k ≡ length xs = omega arith in
              other (sym e ∙ ap (λ (i : ℕ). get_or (push xs y) i 0) z ∙ get_or-append_seam xs y [] 0)

  cut-still : Absent y xs → (p : ℕ) → Absent y (omit xs p)
  cut-still absent p =
      ⊎_elim
      (λ s k b e. let f = (cut-fewer xs p s.0).stood k b in absent f.0 f.1 (sym f.3 ∙ e))
      (λ a. rw (cut-absent xs p a) absent)
      (spot-case xs p)

-- ---- several places

pub cut-all-keeps : (y : ℕ) (ps xs : List ℕ) → Absent y xs → (Names y ps → ⊥) → omit_all (push xs y) ps ≡ push (omit_all xs ps) y
cut-all-keeps y [] xs absent none = refl
cut-all-keeps y (p ∷ ps) xs absent none =
    rw (cut-front y xs p (λ e. none (inl (sym e)))) (cut-all-keeps y ps (omit xs p) (cut-still y xs absent p) (λ n. none (inr n)))

pub cut-all-drops : (y : ℕ) (ps xs : List ℕ) → Absent y xs → Names y ps → omit_all (push xs y) ps ≡ omit_all xs ps
cut-all-drops y [] xs absent named = absurd named
cut-all-drops y (p ∷ ps) xs absent named = go (same? p y) named (cut-all-drops y ps (omit xs p) (cut-still y xs absent p))
  where
    go : (p ≡ y) ⊎ (p ≡ y → ⊥) → (y ≡ p) ⊎ Names y ps → (Names y ps → omit_all (push (omit xs p) y) ps ≡ omit_all (omit xs p) ps)
        → omit_all (omit (push xs y) p) ps ≡ omit_all (omit xs p) ps
    go (inl e) n ih = rw (e, cut-end y xs absent, cut-absent xs y absent) refl
    go (inr e) (inl n) ih = absurd (e (sym n))
    go (inr e) (inr n) ih = rw (cut-front y xs p e) (ih n)

cut-all-none : (ps : List ℕ) → omit_all [] ps ≡ []
cut-all-none [] = refl
cut-all-none (p ∷ ps) = rw (cut-absent [] p (λ k b e. omega arith)) (cut-all-none ps)

-- ---- the pass

-- m is what the order leaves of the first i entries of xs
abbrev pub Passed : (xs order : List ℕ) (count i : ℕ) → Listing → Type 0
Passed xs order count i m = m ≡ listing (omit_all (take i xs) (entries count order))

module _ (order : List ℕ) (count : ℕ) where
  abbrev ps : List ℕ
  ps = entries count order

  pub passed_none : (xs : List ℕ) → Passed xs order count 0 (record { list = replicate limit 0; count = 0 })
  unfolding padded
  passed_none xs = rw (cut-all-none ps) refl

  module _ {l : Listing} (kept : Kept l) (single : Single (entries_of l)) {m : Listing} (i : ℕ) (b : i < length (entries_of l))
      (e : Passed (entries_of l) order count i m) where
    abbrev xs : List ℕ
    xs = entries_of l

    -- the entry whose turn it is
    abbrev y : ℕ
    y = get_or xs i 0

    abbrev zs : List ℕ
    zs = omit_all (take i xs) ps

    next : take (i + 1) xs ≡ push (take i xs) y
    next = rw (add-one i, take-suc xs i 0 b) refl

    apart : Absent y (take i xs)
    apart k c f =
        let n = length-take-le i xs (omega arith) in
        let d : k < i = omega arith in
        let z = single.once k i (omega arith) b (sym (get_or-take i xs k 0 d) ∙ f) in
        omega arith

    pub low : y < limit
    low = single.low i b

    most : length zs ≤ i
    most = omega (arith, all-length-most cut-each (take i xs) ps, length-take-le i xs (omega arith))

    pub passed-room : m.count < limit
    passed-room = omega (arith, most, room-entries kept, ap (λ (v : Listing). v.count) e)

    pub passed-keep : count ≤ get_or (spots_of order count) y 0
        → Passed xs order count (i + 1) (record { list = set m.list m.count y; count = m.count + 1 })
    passed-keep h =
        let s = spots-at order count y low in
        let out = unnamed y order count (λ k c f. omega (arith, index-found order count y k c f)) in
        push-one (kept-as zs e (omega (arith, most, room-entries kept))) y passed-room
        ∙ rw (entries-are zs e, next, cut-all-keeps y ps (take i xs) apart out) refl

    pub passed-drop : get_or (spots_of order count) y 0 < count → Passed xs order count (i + 1) m
    passed-drop h =
        let s = spots-at order count y low in
        let c : index_of order count y < count = omega arith in
        let out = named y order count (index_of order count y) c (index-holds order count y c) in
        e ∙ rw (next, cut-all-drops y ps (take i xs) apart out) refl

  pub passed-all : (l : Listing) {m : Listing} {i : ℕ} → length (entries_of l) ≤ i → Passed (entries_of l) order count i m
      → m ≡ listing (omit_all (entries_of l) (entries count order))
  passed-all l {m} {i} f e = e ∙ rw (take_all i (entries_of l) f) refl
