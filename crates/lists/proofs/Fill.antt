-- Stores in a row, and a list filled by them place by place, over any two types, any map of the one to the other and any start: what stood in
-- the list is written over from the first place on. Assumes nothing.
use mathlib.Core.Path.{◌≡◌, refl, sym, ap, ◌∙◌}
use mathlib.Core.List.{List, [], ◌∷◌, ◌++◌, map, append-nil}
use Prim.Native.Nat.{ℕ, suc, ◌+◌, ◌≤◌, ◌<◌}
use native.Mathlib.Nat.{add-zero, add-suc, suc-add}
use native.Mathlib.Numerals.{add-one}
use native.Mathlib.Omega.{arith}
use lib.ListN.{length, get_or, set, take, length-take, length-map, get_or-map, drop_of_length-le}
use lib.Seq.{sets, sets-eq, take-suc, take_all}
use Rattle.lists.specs.Lists.{limit}

-- two runs of stores, the second behind the first
pub sets-append : {B : Type 0} (a b l : List B) (i : ℕ) → sets l i (a ++ b) ≡ sets (sets l i a) (i + length a) b
sets-append [] b l i = rw add-zero
sets-append (x ∷ a) b l i = rw (add-suc, ← suc-add) (sets-append a b (set l i x) (suc i))

-- l with the first i of s written over its own
abbrev pub filled : {B : Type 0} → List B → List B → ℕ → List B
filled l s i = sets l 0 (take i s)

module _ {A B : Type 0} (f : A → B) (t : List A) (len : length t ≡ limit) where
  len-map : length (map f t) ≡ limit
  len-map = length-map t f ∙ len

  -- one place more; z is what t has past its end
  pub fill_more : (z : A) (l out : List B) (i : ℕ) (v : B) → out ≡ filled l (map f t) i → i < limit → v ≡ f (get_or t i z)
      → set out i v ≡ filled l (map f t) (i + 1)
  fill_more z l out i v e h is =
      let s = map f t in
      let b : i < length s = omega (arith, len-map) in
      let n : 0 + length (take i s) ≡ i = simp length-take (omega arith) in
      let one : v ≡ get_or s i (f z) = is ∙ sym (get_or-map f t i z) in
      rw (e, one, add-one i, take-suc s i (f z) b)
      (sym (sets-append (take i s) (get_or s i (f z) ∷ []) l 0 ∙ ap (λ (k : ℕ). set (filled l s i) k (get_or s i (f z))) n))

  -- all places
  pub fill-all : (l out : List B) (i : ℕ) → out ≡ filled l (map f t) i → limit ≤ i → out ≡ sets l 0 (map f t)
  fill-all l out i e h = e ∙ rw (take_all i (map f t) (omega (arith, len-map))) refl

  -- of a list of the limit's length nothing is left
  pub fill-over : (l : List B) → length l ≡ limit → sets l 0 (map f t) ≡ map f t
  fill-over l n =
      sets-eq (map f t) l 0 (omega (arith, len-map))
      ∙ ap (λ (r : List B). map f t ++ r) (drop_of_length-le l {i = 0 + length (map f t)} (omega (arith, len-map)))
      ∙ append-nil (map f t)

  pub fill-column : (l : List B) → length l ≡ limit → (out : List B) (i : ℕ) → out ≡ filled l (map f t) i → limit ≤ i → out ≡ map f t
  fill-column l n out i e h = fill-all l out i e h ∙ fill-over l n
