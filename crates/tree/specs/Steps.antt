-- The steps of a booking and of a removal on trees: a row is hung at the end of a piece's children, a piece goes; the places of a subtree in the
-- order in which they go; and what is said of a tree: its one top, the children of a piece, the levels, the serials.
use Rattle.std.specs.Prelude.{◌≡◌, List, [], ◌∷◌, ◌++◌, cond, ◌⊎◌, ℕ, ◌+◌, ◌<◌, eqb}
use Rattle.piece.specs.declared.node.Datum.{Datum}
use Rattle.piece.specs.Row.{nil, grow}
use Rattle.tree.specs.Tree.{Tree, At, after, change, rest}

-- the row b comes at the end of the children of q
abbrev pub hang : ℕ → Tree → Tree → Tree
hang q b nil = nil
hang q b (grow p d k r) = cond (eqb p q) (grow p d (after k b) r) (grow p d (hang q b k) (hang q b r))

-- a leaf comes at the end of the children of q
abbrev pub app : ℕ → ℕ → Datum → Tree → Tree
app q a d w = hang q (grow a d nil nil) w

-- the piece x goes, with all below it
abbrev pub less : ℕ → Tree → Tree
less x t = change x rest t

-- the tree has one top, at place 0
abbrev pub Rooted : Tree → Type 0
Rooted nil = ⊥
Rooted (grow p d k r) = (p ≡ 0) × (r ≡ nil)

-- q is a piece of the tree, and its children are k
abbrev pub Kids : ℕ → Tree → Tree → Type 0
Kids q k nil = ⊥
Kids q k (grow p d l r) = ((q ≡ p) × (k ≡ l)) ⊎ (Kids q k l ⊎ Kids q k r)

-- the row is at this level, and each row below is one deeper
abbrev pub Deep : ℕ → Tree → Type 0
Deep level nil = Unit {0}
Deep level (grow p d k r) = (d.level ≡ level) × Deep (level + 1) k × Deep level r

-- no piece of the tree has the serial 0
abbrev pub Marked : Tree → Type 0
Marked w = (i : ℕ) (e : Datum) → At i e w → 0 < e.serial

-- the places of a row, the children's before a piece's own: the order in which a removal unlinks them
abbrev pub leaving : Tree → List ℕ
leaving nil = []
leaving (grow p d k r) = leaving k ++ (p ∷ leaving r)
