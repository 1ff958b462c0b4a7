-- A loop along a list: what is still to come, from one entry to the next. Assumes nothing.
use mathlib.Core.Path.{◌≡◌, refl}
use mathlib.Core.List.{List, [], ◌∷◌}
use Prim.Native.Nat.{ℕ, ◌+◌, ◌≤◌, ◌<◌}
use native.Mathlib.Numerals.{add-one}
use lib.ListN.{length, drop, get_or, drop_of_length-le}
use lib.Seq.{drop-cons}

module _ {A : Type 0} (l : List A) (i : ℕ) where
  -- the next entry, and what comes after it
  pub next-entry : (z : A) → i < length l → drop i l ≡ get_or l i z ∷ drop (i + 1) l
  next-entry z h = rw (drop-cons l i z h, add-one) refl

  -- none is left at the end
  pub none_left : length l ≤ i → drop i l ≡ []
  none_left h = drop_of_length-le l {i = i} h
