-- Document 01, "Tree snapshot": "each node before its children's subtrees, these in order, 13 bytes each: level, kind (0 free, 1 part,
-- 2 structure), cut (0 Horizontal, 1 Vertical), part number 2, width 4, height 4, highest byte first"; and "Same tree": the snapshots "agree in
-- every byte". Document 02, No. 4: "Tree snapshots gain 1 byte a node at the end": what was eaten behind it.
use Rattle.std.specs.Prelude.{◌≡◌, List, [], ◌∷◌, ◌++◌, ℕ, ◌/◌, ◌%◌}
use Rattle.piece.specs.declared.node.Datum.{Datum}
use Rattle.piece.specs.Numbers.{kind_no, cut_no}
use Rattle.piece.specs.Row.{nil, grow}
use Rattle.tree.specs.Tree.{Tree}

-- two and four bytes, highest first, before the others
abbrev pub two_then : ℕ → List ℕ → List ℕ
two_then v r = v / 256 % 256 ∷ v % 256 ∷ r

abbrev pub four_then : ℕ → List ℕ → List ℕ
four_then v r = v / 16777216 % 256 ∷ v / 65536 % 256 ∷ two_then v r

unfoldable pub node_bytes : Datum → List ℕ → List ℕ
node_bytes d r =
    d.level ∷ kind_no d.kind ∷ cut_no d.cut ∷ two_then d.number (four_then d.size.width (four_then d.size.height (d.eaten ∷ r)))

unfoldable pub snapshot : Tree → List ℕ
snapshot nil = []
snapshot (grow p d k r) = node_bytes d (snapshot k ++ snapshot r)

pub record Same (t u : Tree) : Type 0 where
  pub bytes : snapshot t ≡ snapshot u

-- the tree without places and serials
abbrev pub unmarked : Datum → Datum
unmarked d =
    record { serial = 0; size = d.size; number = d.number; level = d.level; kind = d.kind; cut = d.cut; eaten = d.eaten }

abbrev pub shape : Tree → Tree
shape nil = nil
shape (grow p d k r) = grow 0 (unmarked d) (shape k) (shape r)
