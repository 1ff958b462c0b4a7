-- What was stored in the first entries of a list stands first; and a copy, one place more. Assumes nothing.
use mathlib.Core.Path.{◌≡◌, sym, ap, ◌∙◌}
use mathlib.Core.List.{List, [], ◌∷◌, ◌++◌}
use Prim.Native.Nat.{ℕ, ◌+◌, ◌≤◌, ◌<◌}
use native.Mathlib.Numerals.{add-one}
use native.Mathlib.Omega.{arith}
use lib.ListN.{length, get_or, set, take, drop, length-drop}
use lib.Seq.{sets, sets-eq, take_at, take-suc, length-take-le, get_or-drop}
use Rattle.lists.proofs.Fill.{sets-append}

pub take-stored : (vs l : List ℕ) (n : ℕ) → length vs ≡ n → n ≤ length l → take n (sets l 0 vs) ≡ vs
take-stored vs l n e h = ap (take n) (sets-eq vs l 0 (omega arith)) ∙ take_at vs (drop (0 + length vs) l) n e

-- one store more, behind those of vs
pub store-more : (vs l : List ℕ) (i n v : ℕ) {out : List ℕ} → out ≡ sets l i vs → n ≡ i + length vs → set out n v ≡ sets l i (vs ++ (v ∷ []))
store-more vs l i n v e h = rw (e, h) (sym (sets-append vs (v ∷ []) l i))

-- the places of `list` from `from` on, copied to those of l from `to` on: one more than j
pub copy_more : (list l : List ℕ) (from to j : ℕ) {out : List ℕ} → from + j < length list → out ≡ sets l to (take j (drop from list))
    → set out (to + j) (get_or list (from + j) 0) ≡ sets l to (take (j + 1) (drop from list))
copy_more list l from to j h e =
    let s = drop from list in
    let b : j < length s = simp length-drop (omega arith) in
    rw (add-one j, take-suc s j 0 b, get_or-drop from list j 0)
    (store-more (take j s) l to (to + j) (get_or list (from + j) 0) e (omega (arith, length-take-le j s (omega arith))))
