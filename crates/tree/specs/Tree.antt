-- Document 01, "The sheet and its pieces": a tree of pieces, as a row. A piece stands at a place and is what its datum says: level, size,
-- next cut, kind, part number and serial, and how much was eaten behind it (document 02, No. 4); its children are ordered.
use Rattle.std.specs.Prelude.{◌≡◌, Bool, true, false, cond, ◌⊎◌, ℕ, ◌+◌, eqb}
use Rattle.piece.specs.declared.node.Datum.{Datum}
use Rattle.piece.specs.Row.{Row, nil, grow}

abbrev pub Tree : Type 0
Tree = Row Datum

abbrev pub is_nil : {A : Type 0} → Row A → Bool
is_nil nil = true
is_nil (grow p d k r) = false

-- the nodes of a row and below it
abbrev pub count : {A : Type 0} → Row A → ℕ
count nil = 0
count (grow p d k r) = 1 + (count k + count r)

-- a place is in the row or below it
abbrev pub In : {A : Type 0} → ℕ → Row A → Type 0
In i nil = ⊥
In i (grow p d k r) = (i ≡ p) ⊎ (In i k ⊎ In i r)

-- the piece at the place is this one
abbrev pub At : ℕ → Datum → Tree → Type 0
At i e nil = ⊥
At i e (grow p d k r) = ((i ≡ p) × (e ≡ d)) ⊎ (At i e k ⊎ At i e r)

-- the place i is in the subtree of the piece at x, below it
abbrev pub Inside : ℕ → ℕ → Tree → Type 0
Inside x i nil = ⊥
Inside x i (grow p d k r) = ((x ≡ p) × In i k) ⊎ (Inside x i k ⊎ Inside x i r)

-- no place is held twice
abbrev pub Distinct : {A : Type 0} → Row A → Type 0
Distinct nil = Unit {0}
Distinct (grow p d k r) =
    record {
      not_below : In p k → ⊥;
      not_beside : In p r → ⊥;
      apart : (i : ℕ) → In i k → In i r → ⊥;
      below : Distinct k;
      beside : Distinct r;
    }

-- one row after the other
abbrev pub after : {A : Type 0} → Row A → Row A → Row A
after nil b = b
after (grow p d k r) b = grow p d k (after r b)

-- the piece x, with its children, gives way to a row that may depend on what it is and on its later siblings
abbrev pub change : ℕ → (Datum → Tree → Tree) → Tree → Tree
change x f nil = nil
change x f (grow y d k r) = cond (eqb y x) (f d r) (grow y d (change x f k) (change x f r))

-- it gives way to its later siblings alone
abbrev pub rest : Datum → Tree → Tree
rest d r = r
