-- The entries of a list after a step: where each stood before it. A place that is put in or pushed, or cut out, moves those behind it by one;
-- one that is struck out has the final entry in its hole; one that does not stand there changes nothing. Assumes nothing.
use mathlib.Core.Path.{◌≡◌, refl, sym, ap, ◌∙◌}
use mathlib.Core.List.{List, ◌∷◌, ◌++◌, append-nil}
use mathlib.Core.Bool.{Bool}
use mathlib.Core.Logic.{◌⊎◌, inl, inr, ⊎_elim}
use Prim.Native.Nat.{ℕ, suc, ◌+◌, ◌-◌, ◌<◌, ◌≤◌}
use native.Mathlib.Omega.{arith}
use native.Mathlib.Decide.{ℕ_discrete, dec_lt}
use borrow.Author.Tests.{lt-ltb, le-ltb, ltb-true, ltb-false}
use lib.Dec.{ltb}
use lib.ListN.{get_or, set, length, take, drop, length-append, length-drop, drop_of_length-le, get_or-append}
use lib.Seq.{length-take-le, take-length, drop-length, get_or-take, get_or-drop, get_or_at, get_or-append-add, get_or-set_same, get_or-set_other}
use Rattle.tree.proofs.Rows.{same?}
use Rattle.tree.specs.ListSteps.{spot, omit, strike, push, berth, put}
use Rattle.lists.specs.Lists.{swapped}
use Rattle.lists.proofs.Found.{index-most, index-holds, index-found}
use Rattle.lists.proofs.Scan.{first-most, first_holds, first-before}
use Rattle.lists.proofs.Padded.{swapped-length}

-- ---- where a place stands

-- the place does not stand in the list
abbrev pub Absent : ℕ → List ℕ → Type 0
Absent p xs = (k : ℕ) → k < length xs → get_or xs k 0 ≡ p → ⊥

module _ (xs : List ℕ) (p : ℕ) where
  -- it stands where it is found, or nowhere
  pub spot-case : ((spot xs p < length xs) × (get_or xs (spot xs p) 0 ≡ p)) ⊎ Absent p xs
  spot-case = go (dec_lt (spot xs p) (length xs))
    where
      go : Dec (spot xs p < length xs) → ((spot xs p < length xs) × (get_or xs (spot xs p) 0 ≡ p)) ⊎ Absent p xs
      go (yes b) = inl (b, index-holds xs (length xs) p b)
      go (no b) = inr (λ k c e. b (let f = index-found xs (length xs) p k c e in omega arith))

  module _ (absent : Absent p xs) where
    pub spot-absent : spot xs p ≡ length xs
    spot-absent = go (dec_lt (spot xs p) (length xs))
      where
        go : Dec (spot xs p < length xs) → spot xs p ≡ length xs
        go (yes b) = absurd (absent (spot xs p) b (index-holds xs (length xs) p b))
        go (no b) = let m = index-most xs (length xs) p in omega arith

    pub cut-absent : omit xs p ≡ xs
    unfolding omit
    cut-absent = rw (spot-absent, take-length xs, drop_of_length-le xs {i = length xs + 1} (omega arith)) (append-nil xs)

    pub strike-absent : strike xs p ≡ xs
    unfolding strike
    strike-absent = rw (spot-absent, le-ltb (length xs) (length xs) (omega arith)) refl

-- ---- one entry more

-- the index i becomes j where one entry is put in at k
abbrev pub Up : ℕ → ℕ → ℕ → Type 0
Up k i j = ((i < k) × (j ≡ i)) ⊎ ((k ≤ i) × (j ≡ suc i))

pub up_of : (k i : ℕ) → (j : ℕ) × Up k i j
up_of k i = go (dec_lt i k)
  where
    go : Dec (i < k) → (j : ℕ) × Up k i j
    go (yes a) = (i, inl (a, refl))
    go (no a) = (suc i, inr (omega arith, refl))

pub down-of : (k j : ℕ) → (j ≡ k) ⊎ ((i : ℕ) × Up k i j)
down-of k j = go (dec_lt j k) (ℕ_discrete j k)
  where
    go : Dec (j < k) → Dec (j ≡ k) → (j ≡ k) ⊎ ((i : ℕ) × Up k i j)
    go (yes a) b = inr (j, inl (a, refl))
    go (no a) (yes b) = inl b
    go (no a) (no b) = let c : k < j = omega arith in inr (j - 1, inr (omega arith, omega arith))

-- none becomes k, and each stays on its side of k
pub up-side : (k i j : ℕ) → Up k i j → (j ≡ k → ⊥) × (k < j → k ≤ i) × (j < k → i < k)
up-side k i j (inl a) = omega arith
up-side k i j (inr a) = omega arith

-- the order of two does not change
pub up-order : (k i j m n : ℕ) → Up k i j → Up k m n → (i < m → j < n) × (j < n → i < m) × (i ≡ m → j ≡ n) × (j ≡ n → i ≡ m)
up-order k i j m n (inl a) (inl b) = omega arith
up-order k i j m n (inl a) (inr b) = omega arith
up-order k i j m n (inr a) (inl b) = omega arith
up-order k i j m n (inr a) (inr b) = omega arith

-- the long list is the short one with x put in at k
pub record Wider (k x : ℕ) (short long : List ℕ) : Type 0 where
  pub more : length long ≡ suc (length short)
  pub fits : k ≤ length short
  pub here : get_or long k 0 ≡ x
  pub moved : (i j : ℕ) → Up k i j → get_or long j 0 ≡ get_or short i 0

module _ (k x : ℕ) (short long : List ℕ) (v : Wider k x short long) where
  pub up_in : (i j : ℕ) → Up k i j → i < length short → j < length long
  up_in i j (inl a) h = let m = v.more in omega arith
  up_in i j (inr a) h = let m = v.more in omega arith

  pub down-in : (i j : ℕ) → Up k i j → j < length long → i < length short
  down-in i j (inl a) h = let f = v.fits in omega arith
  down-in i j (inr a) h = let m = v.more in omega arith

wider : (k x : ℕ) (xs : List ℕ) → k ≤ length xs → Wider k x xs (take k xs ++ (x ∷ drop k xs))
wider k x xs fits = record { more = more; fits = fits; here = get_or_at (take k xs) x (drop k xs) 0 k front; moved = moved }
  where
    front : length (take k xs) ≡ k
    front = length-take-le k xs fits

    more : length (take k xs ++ (x ∷ drop k xs)) ≡ suc (length xs)
    more = let a = length-append (take k xs) (x ∷ drop k xs) in let b = length-drop k xs in let c = front in omega arith

    moved : (i j : ℕ) → Up k i j → get_or (take k xs ++ (x ∷ drop k xs)) j 0 ≡ get_or xs i 0
    moved i j (inl a) =
        let low : i < k = a.0 in
        let c = front in
        rw a.1 (get_or-append (take k xs) (x ∷ drop k xs) 0 i (omega arith) ∙ get_or-take k xs i 0 low)
    moved i j (inr a) =
        let c = front in
        let e : j ≡ length (take k xs) + suc (i - k) = omega arith in
        let s : k + (i - k) ≡ i = omega arith in
        rw e (get_or-append-add (take k xs) (x ∷ drop k xs) (suc (i - k)) 0 ∙ get_or-drop k xs (i - k) 0 ∙ ap (λ (n : ℕ). get_or xs n 0) s)

pub push-wider : (xs : List ℕ) (p : ℕ) → Wider (length xs) p xs (push xs p)
push-wider xs p = rw (take-length xs, drop-length xs) at (wider (length xs) p xs (omega arith))

-- the place at i has a smaller area than p
abbrev smaller : (ℕ → ℕ) → List ℕ → ℕ → ℕ → Bool
smaller areas xs p i = ltb (areas (get_or xs i 0)) (areas p)

module _ (areas : ℕ → ℕ) (xs : List ℕ) (p : ℕ) where
  pub berth-most : berth areas xs p ≤ length xs
  unfolding berth
  berth-most = let h = first-most (smaller areas xs p) (length xs) 0 in omega arith

  -- the entry there has a smaller area
  pub berth-holds : berth areas xs p < length xs → areas (get_or xs (berth areas xs p) 0) < areas p
  unfolding berth
  berth-holds h = ltb-true _ (areas p) (first_holds (smaller areas xs p) (length xs) 0 (omega arith))

  -- and those before it have none
  pub berth-before : (j : ℕ) → j < berth areas xs p → areas p ≤ areas (get_or xs j 0)
  unfolding berth
  berth-before j h = ltb-false _ (areas p) (first-before (smaller areas xs p) (length xs) 0 j (omega arith) h)

  pub put-wider : Wider (berth areas xs p) p xs (put areas xs p)
  unfolding put
  put-wider = wider (berth areas xs p) p xs berth-most

-- ---- one entry fewer

-- the entries of ys are those of xs but for the one at k: each stood somewhere else, no two at one index, and each is still there
pub record Fewer (k : ℕ) (xs ys : List ℕ) : Type 0 where
  pub stood : (j : ℕ) → j < length ys → (o : ℕ) × (o < length xs) × (o ≡ k → ⊥) × (get_or ys j 0 ≡ get_or xs o 0)
  pub apart : (i j : ℕ) (a : i < length ys) (b : j < length ys) → (stood i a).0 ≡ (stood j b).0 → i ≡ j
  pub stays : (o : ℕ) → o < length xs → (o ≡ k → ⊥) → (j : ℕ) × (j < length ys) × (get_or ys j 0 ≡ get_or xs o 0)

narrower : (k x : ℕ) (xs ys : List ℕ) → Wider k x ys xs → Fewer k xs ys
narrower k x xs ys v =
    record {
      stood =
          λ j b. let u = up_of k j in
          (u.0, up_in k x ys xs v j u.0 u.1 b, (up-side k j u.0 u.1).0, sym (v.moved j u.0 u.1));
      apart = λ i j a b. (up-order k i (up_of k i).0 j (up_of k j).0 (up_of k i).1 (up_of k j).1).3;
      stays =
          λ o b n. ⊎_elim (λ e. absurd (n e))
          (λ u. (u.0, down-in k x ys xs v u.0 o u.1 b, sym (v.moved u.0 o u.1))) (down-of k o);
    }

module _ (xs : List ℕ) (k : ℕ) (inside : k < length xs) where
  less-wider : Wider k (get_or xs k 0) (take k xs ++ drop (k + 1) xs) xs
  less-wider = record { more = more; fits = omega (arith, more); here = refl; moved = moved }
    where
      front : length (take k xs) ≡ k
      front = length-take-le k xs (omega arith)

      more : length xs ≡ suc (length (take k xs ++ drop (k + 1) xs))
      more = let a = length-append (take k xs) (drop (k + 1) xs) in let c = length-drop (k + 1) xs in let f = front in omega arith

      moved : (i j : ℕ) → Up k i j → get_or xs j 0 ≡ get_or (take k xs ++ drop (k + 1) xs) i 0
      moved i j (inl a) =
          let low : i < k = a.0 in
          let c = front in
          rw a.1 (sym (get_or-append (take k xs) (drop (k + 1) xs) 0 i (omega arith) ∙ get_or-take k xs i 0 low))
      moved i j (inr a) =
          let c = front in
          let e : i ≡ length (take k xs) + (i - k) = omega arith in
          let s : (k + 1) + (i - k) ≡ j = omega arith in
          let g = get_or-append-add (take k xs) (drop (k + 1) xs) (i - k) 0 ∙ get_or-drop (k + 1) xs (i - k) 0 in
          sym (ap (λ (n : ℕ). get_or (take k xs ++ drop (k + 1) xs) n 0) e ∙ g ∙ ap (λ (n : ℕ). get_or xs n 0) s)

  -- the final entry stands in the hole
  swapped-hole : k < length xs - 1 → get_or (swapped xs k) k 0 ≡ get_or xs (length xs - 1) 0
  unfolding swapped
  swapped-hole b =
      let v : ℕ = get_or xs (length xs - 1) 0 in
      get_or-take (length xs - 1) (set xs k v) k 0 b ∙ get_or-set_same xs k v 0 inside

  -- and the rest is as it was
  swapped-rest : (j : ℕ) → j < length xs - 1 → (j ≡ k → ⊥) → get_or (swapped xs k) j 0 ≡ get_or xs j 0
  unfolding swapped
  swapped-rest j b n =
      let v : ℕ = get_or xs (length xs - 1) 0 in
      get_or-take (length xs - 1) (set xs k v) j 0 b ∙ get_or-set_other xs k j v 0 n

-- where the entry at j stood
record From (xs : List ℕ) (k j : ℕ) : Type 0 where
  place : ℕ
  low : place < length xs
  other : place ≡ k → ⊥
  reads : get_or (swapped xs k) j 0 ≡ get_or xs place 0
  which : ((j ≡ k) × (place ≡ length xs - 1)) ⊎ ((j < length xs - 1) × (place ≡ j))

from : (xs : List ℕ) (k j : ℕ) → k < length xs → j < length (swapped xs k) → From xs k j
from xs k j inside b = go (same? j k)
  where
    short : j < length xs - 1
    short = let y = swapped-length 0 xs k in omega arith

    go : (j ≡ k) ⊎ (j ≡ k → ⊥) → From xs k j
    go (inl e) =
        record {
          place = length xs - 1;
          low = let s = short in omega arith;
          other = λ q. let s = short in omega arith;
          reads = rw e (swapped-hole xs k inside (let s = short in omega arith));
          which = inl (e, refl);
        }
    go (inr n) =
        record {
          place = j;
          low = let s = short in omega arith;
          other = n;
          reads = swapped-rest xs k inside j short n;
          which = inr (short, refl);
        }

-- two entries that stood at one place are one
from_one : (xs : List ℕ) (k i j : ℕ) (f : From xs k i) (g : From xs k j) → f.place ≡ g.place → i ≡ j
from_one xs k i j f g s = go f.which g.which
  where
    go : ((i ≡ k) × (f.place ≡ length xs - 1)) ⊎ ((i < length xs - 1) × (f.place ≡ i))
        → ((j ≡ k) × (g.place ≡ length xs - 1)) ⊎ ((j < length xs - 1) × (g.place ≡ j)) → i ≡ j
    go (inl u) (inl v) = omega arith
    go (inl u) (inr v) = omega arith
    go (inr u) (inl v) = omega arith
    go (inr u) (inr v) = omega arith

-- each entry but the one at k is still there
kept : (xs : List ℕ) (k o : ℕ) → k < length xs → o < length xs → (o ≡ k → ⊥)
    → (j : ℕ) × (j < length (swapped xs k)) × (get_or (swapped xs k) j 0 ≡ get_or xs o 0)
kept xs k o inside b n = go (ℕ_discrete o (length xs - 1)) (ℕ_discrete k (length xs - 1))
  where
    go : Dec (o ≡ length xs - 1) → Dec (k ≡ length xs - 1)
        → (j : ℕ) × (j < length (swapped xs k)) × (get_or (swapped xs k) j 0 ≡ get_or xs o 0)
    go (yes e) (yes f) = absurd (n (e ∙ sym f))
    go (yes e) (no f) =
        let c : k < length xs - 1 = omega arith in
        (k, rw (swapped-length 0 xs k) c, rw e (swapped-hole xs k inside c))
    go (no m) f =
        let c : o < length xs - 1 = omega arith in
        (o, rw (swapped-length 0 xs k) c, swapped-rest xs k inside o c n)

swapped-fewer : (xs : List ℕ) (k : ℕ) → k < length xs → Fewer k xs (swapped xs k)
swapped-fewer xs k inside =
    record {
      stood = λ j b. let f = from xs k j inside b in (f.place, f.low, f.other, f.reads);
      apart = λ i j a b. from_one xs k i j (from xs k i inside a) (from xs k j inside b);
      stays = λ o b. kept xs k o inside b;
    }

-- p stands in the list
module _ (xs : List ℕ) (p : ℕ) (inside : spot xs p < length xs) where
  cut-wider : Wider (spot xs p) (get_or xs (spot xs p) 0) (omit xs p) xs
  unfolding omit
  cut-wider = less-wider xs (spot xs p) inside

  pub cut-fewer : Fewer (spot xs p) xs (omit xs p)
  cut-fewer = narrower (spot xs p) (get_or xs (spot xs p) 0) xs (omit xs p) cut-wider

  cut-rises : (i j : ℕ) (a : i < length (omit xs p)) (b : j < length (omit xs p)) → i < j
      → (cut-fewer.stood i a).0 < (cut-fewer.stood j b).0
  unfolding cut-fewer narrower
  cut-rises i j a b =
      let k = spot xs p in
      (up-order k i (up_of k i).0 j (up_of k j).0 (up_of k i).1 (up_of k j).1).0

  pub strike-fewer : Fewer (spot xs p) xs (strike xs p)
  unfolding strike
  strike-fewer = rw (lt-ltb (spot xs p) (length xs) inside) (swapped-fewer xs (spot xs p) inside)

  -- "removal puts the final entry into the hole"
  pub strike-hole : spot xs p < length xs - 1 → get_or (strike xs p) (spot xs p) 0 ≡ get_or xs (length xs - 1) 0
  unfolding strike
  strike-hole b = rw (lt-ltb (spot xs p) (length xs) inside) (swapped-hole xs (spot xs p) inside b)

-- two entries of ys, one behind the other, stood so in xs
abbrev pub Orderly : List ℕ → List ℕ → Type 0
Orderly xs ys =
    (i j : ℕ) → i < j → j < length ys
    → (m n : ℕ) × (m < n) × (n < length xs) × (get_or ys i 0 ≡ get_or xs m 0) × (get_or ys j 0 ≡ get_or xs n 0)

pub same-orderly : (xs : List ℕ) → Orderly xs xs
same-orderly xs i j a b = (i, j, a, b, refl, refl)

pub cut-orderly : (xs : List ℕ) (p : ℕ) → Orderly xs (omit xs p)
cut-orderly xs p = ⊎_elim (λ s. within s.0) (λ absent. rw (cut-absent xs p absent) (same-orderly xs)) (spot-case xs p)
  where
    within : spot xs p < length xs → Orderly xs (omit xs p)
    within s i j a b =
        let c : i < length (omit xs p) = omega arith in
        let f = (cut-fewer xs p s).stood i c in
        let g = (cut-fewer xs p s).stood j b in
        (f.0, g.0, cut-rises xs p s i j c b a, g.1, f.3, g.3)
