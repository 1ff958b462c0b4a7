-- The turns of the loops that make room in a list and that close a gap in it. Assumes nothing.
use mathlib.Core.Path.{◌≡◌, refl, sym, ap, ◌∙◌}
use mathlib.Core.List.{List, [], ◌∷◌, ◌++◌}
use Prim.Native.Nat.{ℕ, zero, suc, ◌+◌, ◌-◌, ◌≤◌, ◌<◌, min}
use native.Mathlib.Nat.{sub_self, add-zero, not-suc-le-zero}
use native.Mathlib.Numerals.{add-one}
use native.Mathlib.Omega.{arith}
use native.Mathlib.Decide.{ℕ_discrete, dec_lt}
use lib.ListN.{get_or, set, length, take, drop, length-append, length-drop, length-set, length-take}
use lib.ListN.{drop_of_length-le, get_or-append, get_or-eq_default}
use lib.Seq.{sets, length-sets, set_comm, set_out, take-nil, drop-cons, get_or-set_same, get_or-set_other, get_or-take, get_or-drop, get_or_at, ext_get_or}
use Rattle.lists.specs.Lists.{put_in, take_out}

-- ---- a run of stores

set-sets : (vs l : List ℕ) (k i v : ℕ) → i < k → set (sets l k vs) i v ≡ sets (set l i v) k vs
set-sets [] l k i v h = refl
set-sets (a ∷ vs) l k i v h = set-sets vs (set l k a) (suc k) i v (omega arith) ∙ rw (set_comm l k i a v (λ e. omega arith)) refl

get_d_sets_before : (vs l : List ℕ) (k i : ℕ) → i < k → get_or (sets l k vs) i 0 ≡ get_or l i 0
get_d_sets_before [] l k i h = refl
get_d_sets_before (a ∷ vs) l k i h =
    get_d_sets_before vs (set l k a) (suc k) i (omega arith) ∙ get_or-set_other l k i a 0 (λ e. omega arith)

get_or-sets-after : (vs l : List ℕ) (k i : ℕ) → k + length vs ≤ i → get_or (sets l k vs) i 0 ≡ get_or l i 0
get_or-sets-after [] l k i h = refl
get_or-sets-after (a ∷ vs) l k i h =
    get_or-sets-after vs (set l k a) (suc k) i (omega arith) ∙ get_or-set_other l k i a 0 (λ e. omega arith)

get_or-sets-in : (vs l : List ℕ) (k i : ℕ) → i < length vs → k + i < length l → get_or (sets l k vs) (k + i) 0 ≡ get_or vs i 0
get_or-sets-in [] l k i h m = absurd (not-suc-le-zero h)
get_or-sets-in (a ∷ vs) l k zero h m =
    rw (add-zero k) (get_d_sets_before vs (set l k a) (suc k) k (omega arith) ∙ get_or-set_same l k a 0 (omega arith))
get_or-sets-in (a ∷ vs) l k (suc i) h m =
    let e : k + suc i ≡ suc k + i = omega arith in
    rw e (get_or-sets-in vs (set l k a) (suc k) i (omega arith) (rw (length-set l k a) (omega arith)))

-- a list that agrees with vs from k on, and elsewhere with l
sets-ext : (l c vs : List ℕ) (k : ℕ) → length c ≡ length l
    → ((i : ℕ) → i < k → get_or c i 0 ≡ get_or l i 0)
    → ((i : ℕ) → i < length vs → k + i < length l → get_or c (k + i) 0 ≡ get_or vs i 0)
    → ((i : ℕ) → k + length vs ≤ i → i < length l → get_or c i 0 ≡ get_or l i 0)
    → c ≡ sets l k vs
sets-ext l c vs k z low at high = ext_get_or 0 c (sets l k vs) (z ∙ sym (length-sets l k vs)) (λ i h. go i h (dec_lt i k) (dec_lt i (k + length vs)))
  where
    go : (i : ℕ) → i < length c → Dec (i < k) → Dec (i < k + length vs) → get_or c i 0 ≡ get_or (sets l k vs) i 0
    go i h (yes m) d = low i m ∙ sym (get_d_sets_before vs l k i m)
    go i h (no m) (no d) = high i (omega arith) (omega arith) ∙ sym (get_or-sets-after vs l k i (omega arith))
    go i h (no m) (yes d) =
        let e : k + (i - k) ≡ i = omega arith in
        let g : k + (i - k) < length l = omega arith in
        let t : i - k < length vs = omega arith in
        rw e at (at (i - k) t g ∙ sym (get_or-sets-in vs l k (i - k) t g))

-- ---- room for one more

-- of the first n, those from j on have moved up by one
abbrev pub raised : List ℕ → ℕ → ℕ → List ℕ
raised l n j = sets l (j + 1) (take (n - j) (drop j l))

pub raised-none : (l : List ℕ) (n : ℕ) → l ≡ raised l n n
raised-none l n = rw (sub_self n) refl

pub raised-more : (l : List ℕ) (n i j k : ℕ) → j ≡ i + 1 → k ≡ j → j ≤ n → set (raised l n j) k (get_or (raised l n j) i 0) ≡ raised l n i
raised-more l n i j k e q h =
    ap (λ (x : ℕ). set (raised l n j) x (get_or (raised l n j) i 0)) q
    ∙ ap (set (raised l n j) j) (get_d_sets_before (take (n - j) (drop j l)) l (j + 1) i (omega arith))
    ∙ set-sets (take (n - j) (drop j l)) l (j + 1) j (get_or l i 0) (omega arith)
    ∙ go (dec_lt i (length l))
  where
    go : Dec (i < length l) → sets (set l j (get_or l i 0)) (j + 1) (take (n - j) (drop j l)) ≡ raised l n i
    go (yes m) =
        let d : n - i ≡ suc (n - j) = omega arith in
        rw (d, drop-cons l i 0 m, ← add-one i, ← e, add-one j) refl
    go (no m) =
        let a : length l ≤ i = omega arith in
        let b : length l ≤ j = omega arith in
        rw (drop_of_length-le l a, drop_of_length-le l b, take-nil (n - i), take-nil (n - j)) (set_out l j (get_or l i 0) b)

pub raised-put : (l : List ℕ) (n k p : ℕ) → set (raised l n k) k p ≡ put_in l n k p
unfolding put_in
raised-put l n k p = set-sets (take (n - k) (drop k l)) l (k + 1) k p (omega arith) ∙ rw (add-one k) refl

-- ---- a gap closed

-- those behind k, up to i, stand one lower
pub record Lowered (l c : List ℕ) (k i : ℕ) : Type 0 where
  pub size : length c ≡ length l
  pub low : (x : ℕ) → x < k → get_or c x 0 ≡ get_or l x 0
  pub moved : (x : ℕ) → k ≤ x → x + 1 < i → get_or c x 0 ≡ get_or l (x + 1) 0
  pub rest : (x : ℕ) → i ≤ x + 1 → get_or c x 0 ≡ get_or l x 0

pub lowered_none : (l : List ℕ) (k : ℕ) → Lowered l l k (k + 1)
lowered_none l k = record { size = refl; low = λ x h. refl; moved = λ x a b. absurd (no x a b); rest = λ x h. refl }
  where
    no : (x : ℕ) → k ≤ x → x + 1 < k + 1 → ⊥
    no x a b = omega arith

pub lowered-more : (l c : List ℕ) (k i : ℕ) → k < i → Lowered l c k i → Lowered l (set c (i - 1) (get_or c i 0)) k (i + 1)
lowered-more l c k i h s =
    record {
      size = length-set c (i - 1) (get_or c i 0) ∙ s.size;
      low = λ x m. get_or-set_other c (i - 1) x _ 0 (λ q. omega arith) ∙ s.low x m;
      moved = λ x a b. here x a b (ℕ_discrete x (i - 1)) (dec_lt x (length c));
      rest = λ x m. get_or-set_other c (i - 1) x _ 0 (λ q. omega arith) ∙ s.rest x (omega arith);
    }
  where
    here : (x : ℕ) → k ≤ x → x + 1 < i + 1 → Dec (x ≡ i - 1) → Dec (x < length c) → get_or (set c (i - 1) (get_or c i 0)) x 0 ≡ get_or l (x + 1) 0
    here x a b (no q) d = get_or-set_other c (i - 1) x _ 0 q ∙ s.moved x a (omega arith)
    here x a b (yes q) (yes d) =
        let e : x + 1 ≡ i = omega arith in
        rw (← q, e) (get_or-set_same c x (get_or c i 0) 0 d ∙ s.rest i (omega arith))
    here x a b (yes q) (no d) =
        let z = s.size in
        rw (← q, set_out c x (get_or c i 0) (omega arith))
        (get_or-eq_default c 0 (omega arith) ∙ sym (get_or-eq_default l 0 (omega arith)))

-- what is written of the gap, and then a zero
abbrev closed : List ℕ → ℕ → ℕ → List ℕ
closed l m k = take m (drop (k + 1) l)

closed-length : (l : List ℕ) (m k : ℕ) → length (closed l m k) ≡ min m (length l - (k + 1))
closed-length l m k = length-take m (drop (k + 1) l) ∙ ap (min m) (length-drop (k + 1) l)

pub lowered-put : (l c : List ℕ) (n k : ℕ) → k < n → Lowered l c k n → set c (n - 1) 0 ≡ take_out l n k
unfolding take_out
lowered-put l c n k h s =
    sets-ext l (set c j 0) (closed l m k ++ (0 ∷ [])) k
    (length-set c j 0 ∙ s.size)
    (λ i b. get_or-set_other c j i 0 0 (λ q. omega arith) ∙ s.low i b)
    (λ i b g. here i b g (dec_lt i (length (closed l m k))) (ℕ_discrete (k + i) j))
    (λ i b g. let z = long in get_or-set_other c j i 0 0 (λ q. omega arith) ∙ s.rest i (omega arith))
  where
    j : ℕ
    j = n - 1

    m : ℕ
    m = n - (k + 1)

    long : length (closed l m k ++ (0 ∷ [])) ≡ min m (length l - (k + 1)) + 1
    long = length-append (closed l m k) (0 ∷ []) ∙ ap (λ (x : ℕ). x + 1) (closed-length l m k)

    here : (i : ℕ) → i < length (closed l m k ++ (0 ∷ [])) → k + i < length l → Dec (i < length (closed l m k)) → Dec (k + i ≡ j)
        → get_or (set c j 0) (k + i) 0 ≡ get_or (closed l m k ++ (0 ∷ [])) i 0
    here i b g (yes d) q =
        let z = closed-length l m k in
        let x : k + i + 1 ≡ k + 1 + i = omega arith in
        get_or-set_other c j (k + i) 0 0 (λ w. omega arith)
        ∙ s.moved (k + i) (omega arith) (omega arith)
        ∙ rw x (sym (get_or-append (closed l m k) (0 ∷ []) 0 i d ∙ get_or-take m (drop (k + 1) l) i 0 (omega arith) ∙ get_or-drop (k + 1) l i 0))
    here i b g (no d) (yes q) =
        let z = long in
        let w = closed-length l m k in
        let y = s.size in
        rw q (get_or-set_same c j 0 0 (omega arith)) ∙ sym (get_or_at (closed l m k) 0 [] 0 i (omega arith))
    here i b g (no d) (no q) =
        let z = long in
        let w = closed-length l m k in
        get_or-set_other c j (k + i) 0 0 q
        ∙ s.moved (k + i) (omega arith) (omega arith)
        ∙ get_or-eq_default l 0 (omega arith)
        ∙ sym (get_or_at (closed l m k) 0 [] 0 i (omega arith))
