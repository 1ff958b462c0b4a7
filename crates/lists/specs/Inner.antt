-- Nobody has to believe this file: it only says what the inner functions of `serials` are handed or give back, and both ends of that are proved.
-- Serials by residue modulo 4,096, and by class: a class is the serials with one quotient by 4,096.
use Rattle.std.specs.Prelude.{List, ◌≡◌, Bool, cond, ◌||◌, not, ℕ, zero, suc, ◌/◌, ◌%◌, ◌<◌, eqb, get_or}
use Rattle.lists.specs.Lists.{limit}
use Rattle.lists.specs.Search.{every}
use Rattle.lists.specs.declared.serials.Chains.{Chains}

-- each serial is below 256 · 4,096, so that there are 256 classes
abbrev pub Low : List ℕ → Type 0
Low s = (i : ℕ) → i < limit → get_or s i 0 < 1048576

-- ---- residues

-- one of the serials at i and j is 0, or they do not agree modulo 4,096
abbrev pub unlike : List ℕ → ℕ → ℕ → Bool
unlike s i j = eqb (get_or s i 0) 0 || (eqb (get_or s j 0) 0 || not (eqb (get_or s i 0 % 4096) (get_or s j 0 % 4096)))

-- the serial at i and each before it
abbrev pub unlike_below : List ℕ → ℕ → Bool
unlike_below s i = every (unlike s i) i

-- no two serials but 0 agree modulo 4,096 below the bound
unfoldable pub residues_differ : ℕ → List ℕ → Bool
residues_differ bound s = every (unlike_below s) bound

-- ---- classes

-- the class of the serial at i
abbrev pub class_at : List ℕ → ℕ → ℕ
class_at s i = get_or s i 0 / 4096

abbrev pub in_class : List ℕ → ℕ → ℕ → Bool
in_class s h i = eqb (class_at s i) h

-- the number past the last one below n of which f holds, or 0 where there is none
unfoldable pub last_below : (ℕ → Bool) → ℕ → ℕ
last_below f zero = 0
last_below f (suc n) = let r = last_below f n in cond (f n) (suc n) r

-- a chain for each class, from its last place to its first
pub record Chained (s : List ℕ) (c : Chains) : Type 0 where
  pub heads : (h : ℕ) → h < 256 → get_or c.head h 0 ≡ last_below (in_class s h) limit
  pub links : (i : ℕ) → i < limit → get_or c.link i 0 ≡ last_below (in_class s (class_at s i)) i
