-- The bytes of cuts: how they are written, and how many they are. `sets` of lib.Seq is "written here, the rest unchanged". Rests on lists/proofs/Fill. Assumes nothing.
use mathlib.Core.Path.{◌≡◌, refl, sym, ap}
use mathlib.Core.List.{List, [], ◌∷◌, ◌++◌, append_assoc, append-nil}
use Prim.Native.Nat.{ℕ, zero, suc, ◌+◌, ◌*◌, ◌≤◌}
use native.Mathlib.Numerals.{add-one}
use native.Mathlib.Omega.{arith}
use lib.ListN.{length, get_or, set, take, drop, length-append, length-drop, length-map}
use lib.Seq.{sets, drop-drop, get_or-drop, length-take-le}
use Rattle.piece.specs.Numbers.{cut_no}
use Rattle.tree.specs.Snapshot.{two_then, four_then}
use Rattle.lists.proofs.Fill.{sets-append}
use Rattle.saw.specs.declared.cut.Cut.{Cut}
use Rattle.saw.specs.Cuts.{cut_bytes, bytes_of_cuts, amounts}
use Rattle.saw.specs.Listed.{entry_bytes, entries_of_cuts, nines_of, tenths_of}

-- an entry's, one after the other: its cut's place, way and distance, then the two kinds, and what the cut loses
pub cut-stored : (l : List ℕ) (x : ℕ) (c : Cut) (w : ℕ) (l₁ l₂ : List ℕ)
    → l₁ ≡ sets l x (two_then c.place [])
    → w ≡ cut_no c.way
    → l₂ ≡ sets (set l₁ (x + 2) w) (x + 3) (four_then c.distance [])
    → set (set (set l₂ (x + 7) c.piece) (x + 8) c.remainder) (x + 9) c.eaten ≡ sets l x (entry_bytes c [])
unfolding entry_bytes cut_bytes
cut-stored l x c w l₁ l₂ place is-way distance =
    let e₂ : x + 2 ≡ suc (suc x) = omega arith in
    let e₃ : x + 3 ≡ suc (suc (suc x)) = omega arith in
    let e₇ : x + 7 ≡ suc (suc (suc (suc (suc (suc (suc x)))))) = omega arith in
    let e₈ : x + 8 ≡ suc (suc (suc (suc (suc (suc (suc (suc x))))))) = omega arith in
    let e₉ : x + 9 ≡ suc (suc (suc (suc (suc (suc (suc (suc (suc x)))))))) = omega arith in
    rw (distance, place, is-way, e₂, e₃, e₇, e₈, e₉) refl

-- ---- how many they are

pub length-bytes : (cs : List Cut) → length (bytes_of_cuts cs) ≡ 9 * length cs
unfolding bytes_of_cuts cut_bytes
length-bytes [] = refl
length-bytes (c ∷ cs) = let h = length-bytes cs in omega arith

pub length-amounts : (cs : List Cut) → length (amounts cs) ≡ length cs
length-amounts cs = length-map cs (λ (c : Cut). c.eaten)

pub length-entries : (cs : List Cut) → length (entries_of_cuts cs) ≡ 10 * length cs
unfolding entries_of_cuts entry_bytes cut_bytes
length-entries [] = refl
length-entries (c ∷ cs) = let h = length-entries cs in omega arith

-- ---- entries

entries-append : (cs ds : List Cut) → entries_of_cuts (cs ++ ds) ≡ entries_of_cuts cs ++ entries_of_cuts ds
unfolding entries_of_cuts entry_bytes cut_bytes
entries-append [] ds = refl
entries-append (c ∷ cs) ds = rw (entries-append cs ds) refl

-- cuts written after n cuts, and others behind them, are all of them written after n
pub entries-written : (cs ds : List Cut) (l : List ℕ) (n : ℕ)
    → sets (sets l (10 * n) (entries_of_cuts cs)) (10 * (n + length cs)) (entries_of_cuts ds) ≡ sets l (10 * n) (entries_of_cuts (cs ++ ds))
entries-written cs ds l n =
    let e : 10 * (n + length cs) ≡ 10 * n + length (entries_of_cuts cs) = omega (arith, length-entries cs) in
    rw (e, entries-append cs ds) (sym (sets-append (entries_of_cuts cs) (entries_of_cuts ds) l (10 * n)))

-- the first nine of each are the bytes of the cuts, and the tenth of each is what its cut loses
pub nines-are : (cs : List Cut) (l : List ℕ) → nines_of (length cs) (entries_of_cuts cs ++ l) ≡ bytes_of_cuts cs
unfolding nines_of entries_of_cuts entry_bytes bytes_of_cuts cut_bytes
nines-are [] l = refl
nines-are (c ∷ cs) l = rw (nines-are cs l) refl

pub tenths-are : (cs : List Cut) (l : List ℕ) → tenths_of (length cs) (entries_of_cuts cs ++ l) ≡ amounts cs
unfolding tenths_of entries_of_cuts entry_bytes cut_bytes
tenths-are [] l = refl
tenths-are (c ∷ cs) l = rw (tenths-are cs l) refl

-- ---- one entry more

nines-more : (k : ℕ) (l : List ℕ) → nines_of (k + 1) l ≡ nines_of k l ++ take 9 (drop (10 * k) l)
unfolding nines_of
nines-more k l = rw (add-one k) (go k l)
  where
    go : (k : ℕ) (l : List ℕ) → nines_of (suc k) l ≡ nines_of k l ++ take 9 (drop (10 * k) l)
    go zero l = append-nil (take 9 l)
    go (suc k) l =
        let e : 10 * suc k ≡ 10 + 10 * k = omega arith in
        rw (e, ← drop-drop (10 * k) 10 l, append_assoc) (ap (λ (r : List ℕ). take 9 l ++ r) (go k (drop 10 l)))

length-nines : (k : ℕ) (l : List ℕ) → 10 * k ≤ length l → length (nines_of k l) ≡ 9 * k
unfolding nines_of
length-nines zero l h = refl
length-nines (suc k) l h =
    omega (
      arith,
      length-append (take 9 l) (nines_of k (drop 10 l)),
      length-take-le 9 l (omega arith),
      length-nines k (drop 10 l) (simp length-drop (omega arith)),
    )

-- nine bytes more, behind those of k entries
pub nines-stored : (list l : List ℕ) (k : ℕ) {out after : List ℕ} → 10 * k ≤ length list → out ≡ sets l 0 (nines_of k list)
    → after ≡ sets out (9 * k) (take 9 (drop (10 * k) list)) → after ≡ sets l 0 (nines_of (k + 1) list)
nines-stored list l k h e f =
    let at : 9 * k ≡ 0 + length (nines_of k list) = omega (arith, length-nines k list h) in
    rw (f, e, nines-more k list, at) (sym (sets-append (nines_of k list) (take 9 (drop (10 * k) list)) l 0))

pub tenths-more : (k : ℕ) (l : List ℕ) → tenths_of (k + 1) l ≡ tenths_of k l ++ (get_or l (10 * k + 9) 0 ∷ [])
unfolding tenths_of
tenths-more k l = rw (add-one k) (go k l)
  where
    go : (k : ℕ) (l : List ℕ) → tenths_of (suc k) l ≡ tenths_of k l ++ (get_or l (10 * k + 9) 0 ∷ [])
    go zero l = refl
    go (suc k) l =
        let e : 10 * suc k + 9 ≡ 10 + (10 * k + 9) = omega arith in
        rw (e, ← get_or-drop 10 l (10 * k + 9) 0) (ap (λ (r : List ℕ). get_or l 9 0 ∷ r) (go k (drop 10 l)))

pub length-tenths : (k : ℕ) (l : List ℕ) → length (tenths_of k l) ≡ k
unfolding tenths_of
length-tenths zero l = refl
length-tenths (suc k) l = ap suc (length-tenths k (drop 10 l))
