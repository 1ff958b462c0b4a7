-- The steps on whole lists: on entries that count, with zeros behind them up to a bound. Assumes nothing.
use mathlib.Core.Path.{◌≡◌, refl, sym, ap, ◌∙◌}
use mathlib.Core.Bool.{true}
use mathlib.Core.List.{List, [], ◌∷◌, ◌++◌, append_assoc}
use Prim.Native.Nat.{ℕ, zero, suc, ◌+◌, ◌-◌, ◌≤◌, ◌<◌}
use native.Mathlib.Numerals.{add-one}
use native.Mathlib.Omega.{arith}
use native.Mathlib.Decide.{dec_lt}
use lib.ListN.{get_or, set, length, take, drop, length-append, length-replicate, length-drop, length-set}
use lib.ListN.{drop_of_length-le, get_or-append, get_or-eq_default}
use lib.Seq.{length-take-le, take-append-le, drop-append-le, take-append_seam, drop-append_seam, drop-append-add, get_or-append-add, take_at}
use lib.Seq.{take-length, drop-length, sets-eq, set-append_left, set_split, get_or-drop, ext_get_or}
use borrow.Author.Tests.{lt-ltb, le-ltb, eq-eqb, eqb-true}
use Rattle.lists.specs.Lists.{zeros, padded, put_in, take_out, swap_out, swapped}
use Rattle.lists.specs.Search.{zero_at, zero_tail}
use Rattle.lists.proofs.Scan.{every-all, every-at}

-- ---- a list that is long enough, in its parts

pub put-in-parts : (l : List ℕ) (n k p : ℕ) → k ≤ n → n < length l
    → put_in l n k p ≡ take k l ++ (p ∷ (take (n - k) (drop k l) ++ drop (n + 1) l))
unfolding put_in
put-in-parts l n k p h m =
    let z : length (take (n - k) (drop k l)) ≡ n - k = length-take-le (n - k) (drop k l) (rw (length-drop k l) (omega arith)) in
    let e : k + suc (length (take (n - k) (drop k l))) ≡ n + 1 = omega arith in
    sets-eq (p ∷ take (n - k) (drop k l)) l k (omega arith)
    ∙ rw e (append_assoc (take k l) (p ∷ take (n - k) (drop k l)) (drop (n + 1) l))

pub take-out-parts : (l : List ℕ) (n k : ℕ) → k < n → n ≤ length l
    → take_out l n k ≡ take k l ++ (take (n - (k + 1)) (drop (k + 1) l) ++ (0 ∷ drop n l))
unfolding take_out
take-out-parts l n k h m =
    let t : List ℕ = take (n - (k + 1)) (drop (k + 1) l) in
    let z : length t ≡ n - (k + 1) = length-take-le (n - (k + 1)) (drop (k + 1) l) (rw (length-drop (k + 1) l) (omega arith)) in
    let y : length (t ++ (0 ∷ [])) ≡ length t + 1 = length-append t (0 ∷ []) in
    let e : k + length (t ++ (0 ∷ [])) ≡ n = omega arith in
    sets-eq (t ++ (0 ∷ [])) l k (omega arith)
    ∙ rw e (append_assoc (take k l) (t ++ (0 ∷ [])) (drop n l) ∙ ap (λ (r : List ℕ). take k l ++ r) (append_assoc t (0 ∷ []) (drop n l)))

-- ---- zeros

pub length-zeros : (n : ℕ) → length (zeros n) ≡ n
length-zeros n = length-replicate n 0

pub get_or-zeros : (n j : ℕ) → get_or (zeros n) j 0 ≡ 0
get_or-zeros zero j = refl
get_or-zeros (suc n) zero = refl
get_or-zeros (suc n) (suc j) = get_or-zeros n j

-- one zero more
zeros-more : (n m : ℕ) → n ≡ m + 1 → zeros n ≡ 0 ∷ zeros m
zeros-more n m e = rw (e, add-one m) refl

-- ---- a padded list, read

module _ (bound : ℕ) (xs : List ℕ) where
  pub length-padded : length xs ≤ bound → length (padded bound xs) ≡ bound
  unfolding padded
  length-padded h = length-append xs (zeros (bound - length xs)) ∙ rw (length-zeros (bound - length xs)) (omega arith)

  pub take-padded : take (length xs) (padded bound xs) ≡ xs
  unfolding padded
  take-padded = take-append_seam xs (zeros (bound - length xs))

  pub drop-padded : drop (length xs) (padded bound xs) ≡ zeros (bound - length xs)
  unfolding padded
  drop-padded = drop-append_seam xs (zeros (bound - length xs))

  -- what is read past the entries is 0, whether a zero stands there or nothing
  pub get_or-padded : (i : ℕ) → get_or (padded bound xs) i 0 ≡ get_or xs i 0
  unfolding padded
  get_or-padded i = go (dec_lt i (length xs))
    where
      go : Dec (i < length xs) → get_or (xs ++ zeros (bound - length xs)) i 0 ≡ get_or xs i 0
      go (yes h) = get_or-append xs (zeros (bound - length xs)) 0 i h
      go (no h) =
          let e : length xs + (i - length xs) ≡ i = omega arith in
          (rw e at (get_or-append-add xs (zeros (bound - length xs)) (i - length xs) 0))
          ∙ get_or-zeros (bound - length xs) (i - length xs)
          ∙ sym (get_or-eq_default xs 0 (omega arith))

-- ---- the steps on a padded list

module _ (bound : ℕ) (xs : List ℕ) (k : ℕ) where
  pub put-in-length : (p : ℕ) → k ≤ length xs → length (take k xs ++ (p ∷ drop k xs)) ≡ length xs + 1
  put-in-length p h =
      let a : length (take k xs) ≡ k = length-take-le k xs h in
      let b : length (drop k xs) ≡ length xs - k = length-drop k xs in
      length-append (take k xs) (p ∷ drop k xs) ∙ omega arith

  pub put-in-padded : (p : ℕ) → k ≤ length xs → length xs < bound
      → put_in (padded bound xs) (length xs) k p ≡ padded bound (take k xs ++ (p ∷ drop k xs))
  unfolding padded
  put-in-padded p h m =
      let n : ℕ = length xs in
      let z : List ℕ = zeros (bound - n) in
      let y = length-padded bound xs (omega arith) in
      let a : take (n - k) (drop k xs ++ z) ≡ drop k xs = take_at (drop k xs) z (n - k) (length-drop k xs) in
      let b : drop (n + 1) (xs ++ z) ≡ zeros (bound - (n + 1)) =
      drop-append-add xs z 1 ∙ ap (drop 1) (zeros-more (bound - n) (bound - (n + 1)) (omega arith))
      in
      put-in-parts (xs ++ z) n k p h (omega arith)
      ∙ rw (take-append-le k xs z h, drop-append-le k xs z h, a, b, put-in-length p h)
      (sym (append_assoc (take k xs) (p ∷ drop k xs) (zeros (bound - (n + 1)))))

  pub take-out-length : k < length xs → length (take k xs ++ drop (k + 1) xs) ≡ length xs - 1
  take-out-length h =
      let a : length (take k xs) ≡ k = length-take-le k xs (omega arith) in
      let b : length (drop (k + 1) xs) ≡ length xs - (k + 1) = length-drop (k + 1) xs in
      length-append (take k xs) (drop (k + 1) xs) ∙ omega arith

  pub take-out-padded : k < length xs → length xs ≤ bound
      → take_out (padded bound xs) (length xs) k ≡ padded bound (take k xs ++ drop (k + 1) xs)
  unfolding padded
  take-out-padded h m =
      let n : ℕ = length xs in
      let z : List ℕ = zeros (bound - n) in
      let y = length-padded bound xs m in
      let r : k + 1 ≤ n = omega arith in
      let s : k ≤ n = omega arith in
      let a : take (n - (k + 1)) (drop (k + 1) xs ++ z) ≡ drop (k + 1) xs =
      take_at (drop (k + 1) xs) z (n - (k + 1)) (length-drop (k + 1) xs)
      in
      take-out-parts (xs ++ z) n k h (omega arith)
      ∙ rw (take-append-le k xs z s, drop-append-le (k + 1) xs z r, a, drop-append_seam xs z, take-out-length h)
      (rw (zeros-more (bound - (n - 1)) (bound - n) (omega arith))
      (sym (append_assoc (take k xs) (drop (k + 1) xs) (0 ∷ z))))

  pub swapped-length : length (swapped xs k) ≡ length xs - 1
  unfolding swapped
  swapped-length =
      let v : ℕ = get_or xs (length xs - 1) 0 in
      length-take-le (length xs - 1) (set xs k v) (rw (length-set xs k v) (omega arith))

  pub swap-out-padded : k < length xs → length xs ≤ bound
      → swap_out (padded bound xs) (length xs) k ≡ padded bound (swapped xs k)
  unfolding padded swap_out swapped
  swap-out-padded h m =
      let n : ℕ = length xs in
      let z : List ℕ = zeros (bound - n) in
      let v : ℕ = get_or xs (n - 1) 0 in
      let ys : List ℕ = set xs k v in
      let y : length ys ≡ n = length-set xs k v in
      let a : set ys (n - 1) 0 ≡ take (n - 1) ys ++ (0 ∷ []) =
      set_split ys (n - 1) 0 (omega arith)
      ∙ ap (λ (r : List ℕ). take (n - 1) ys ++ (0 ∷ r)) (drop_of_length-le ys {i = suc (n - 1)} (omega arith))
      in
      rw (get_or-padded bound xs (n - 1), set-append_left xs z k v h, set-append_left ys z (n - 1) 0 (omega arith), a, swapped-length)
      (rw (zeros-more (bound - (n - 1)) (bound - n) (omega arith)) (append_assoc (take (n - 1) ys) (0 ∷ []) z))

-- appending is putting in at the count
pub append-padded : (bound : ℕ) (xs : List ℕ) (p : ℕ) → length xs < bound
    → put_in (padded bound xs) (length xs) (length xs) p ≡ padded bound (xs ++ (p ∷ []))
append-padded bound xs p h =
    put-in-padded bound xs (length xs) p (omega arith) h ∙ rw (take-length xs, drop-length xs) refl

-- ---- the tail

module _ (bound : ℕ) (l : List ℕ) (n : ℕ) where
  pub zero-tail-at : zero_tail bound l n ≡ true → (i : ℕ) → n ≤ i → i < bound → get_or l i 0 ≡ 0
  unfolding zero_tail
  zero-tail-at t i a b = eqb-true (get_or l i 0) 0 (rw (le-ltb i n a) at (every-at (zero_at l n) bound i t b))

  pub zero-tail-all : ((i : ℕ) → n ≤ i → i < bound → get_or l i 0 ≡ 0) → zero_tail bound l n ≡ true
  unfolding zero_tail
  zero-tail-all z = every-all (zero_at l n) bound (λ i b. go i b (dec_lt i n))
    where
      go : (i : ℕ) → i < bound → Dec (i < n) → zero_at l n i ≡ true
      go i b (yes h) = rw (lt-ltb i n h) refl
      go i b (no h) = rw (le-ltb i n (omega arith), eq-eqb (get_or l i 0) 0 (z i (omega arith) b)) refl

  module _ (e : length l ≡ bound) where
    pub zero-tail-drop : zero_tail bound l n ≡ true → drop n l ≡ zeros (bound - n)
    zero-tail-drop t =
        ext_get_or 0 (drop n l) (zeros (bound - n)) (length-drop n l ∙ rw (e, length-zeros (bound - n)) refl)
        (λ i m. let y = length-drop n l in
        get_or-drop n l i 0 ∙ zero-tail-at t (n + i) (omega arith) (omega arith) ∙ sym (get_or-zeros (bound - n) i))

    pub drop-zero-tail : drop n l ≡ zeros (bound - n) → zero_tail bound l n ≡ true
    drop-zero-tail d = zero-tail-all here
      where
        here : (i : ℕ) → n ≤ i → i < bound → get_or l i 0 ≡ 0
        here i a b =
            let q : n + (i - n) ≡ i = omega arith in
            (rw q at (sym (get_or-drop n l (i - n) 0))) ∙ ap (λ (r : List ℕ). get_or r (i - n) 0) d ∙ get_or-zeros (bound - n) (i - n)
