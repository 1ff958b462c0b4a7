-- Shapes: the tree without places and serials. Two trees of one shape are the same tree. Assumes nothing.
use mathlib.Core.Path.{◌≡◌, refl, sym, ap, ◌∙◌}
use Rattle.piece.specs.Row.{nil, grow}
use Rattle.tree.specs.Tree.{Tree, after}
use Rattle.tree.specs.Snapshot.{node_bytes, snapshot, shape, unmarked, Same}

-- the snapshot shows nothing but the shape
snapshot-shape : (t : Tree) → snapshot t ≡ snapshot (shape t)
unfolding snapshot node_bytes
snapshot-shape nil = refl
snapshot-shape (grow p d k r) = rw (snapshot-shape k, snapshot-shape r)

pub same-of-shape : (t u : Tree) → shape t ≡ shape u → Same t u
same-of-shape t u e = record { bytes = snapshot-shape t ∙ ap snapshot e ∙ sym (snapshot-shape u) }

pub shape-after : (a b : Tree) → shape (after a b) ≡ after (shape a) (shape b)
shape-after nil b = refl
shape-after (grow p d k r) b = ap (λ (z : Tree). grow 0 (unmarked d) (shape k) z) (shape-after r b)
