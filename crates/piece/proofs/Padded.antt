-- A list that an array of n entries holds, with the zero entry past its end, as the code holds offers and nodes: the array tells the list.
use mathlib.Core.Path.{◌≡◌, refl, ◌∙◌}
use mathlib.Core.List.{List, [], ◌∷◌, ◌++◌}
use Prim.Native.Nat.{ℕ, zero, suc, ◌≤◌}
use native.Mathlib.Nat.{le_of_suc-le-suc, not-suc-le-zero}
use lib.ListN.{length, take, get_or, replicate}
use lib.Seq.{take-take, take-append_seam}

module _ {A : Type 0} (z : A) where
  zeros : (n m i : ℕ) → get_or (take n (replicate m z)) i z ≡ z
  zeros zero m i = refl
  zeros (suc n) zero i = refl
  zeros (suc n) (suc m) zero = refl
  zeros (suc n) (suc m) (suc i) = zeros n m i

  -- each entry of the array is the list's, and zero past its end
  pub padded-at : (n m : ℕ) (l : List A) → length l ≤ n → (i : ℕ) → get_or (take n (l ++ replicate m z)) i z ≡ get_or l i z
  padded-at n m [] h i = zeros n m i
  padded-at zero m (x ∷ l) h i = absurd (not-suc-le-zero h)
  padded-at (suc n) m (x ∷ l) h zero = refl
  padded-at (suc n) m (x ∷ l) h (suc i) = padded-at n m l (le_of_suc-le-suc h) i

  -- the list is the array's beginning
  pub padded-whole : (n m : ℕ) (l : List A) → length l ≤ n → take (length l) (take n (l ++ replicate m z)) ≡ l
  padded-whole n m l h = take-take (length l) n (l ++ replicate m z) h ∙ take-append_seam l (replicate m z)
