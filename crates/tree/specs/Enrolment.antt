-- Document 01, "The removable list: a new part is appended, then any new node's parent if that had no child; removal puts the final entry into
-- the hole; a parent that loses its last child is taken out, though it may return at once."
use Rattle.std.specs.Prelude.{Bool, true, false, cond, List, [], ◌∷◌, ◌++◌, ℕ}
use Rattle.piece.specs.declared.node.Datum.{Datum}
use Rattle.piece.specs.Row.{nil, grow}
use Rattle.piece.specs.Kinds.{is_part}
use Rattle.tree.specs.Tree.{Tree}
use Rattle.tree.specs.Booking.{Booking, block}
use Rattle.tree.specs.Removal.{cleared, subtree}
use Rattle.tree.specs.Steps.{less, leaving}
use Rattle.tree.specs.ListSteps.{strike, strike_all}
use Rattle.tree.specs.Family.{parent_of, childless}

-- the place, if so
abbrev pub when : Bool → ℕ → List ℕ
when b p = cond b (p ∷ []) []

-- what the new nodes of a row under q bring to the list, in the order of creation; none says that q has no child before the row
abbrev pub enrolled : ℕ → Bool → Tree → List ℕ
enrolled q none nil = []
enrolled q none (grow p d k r) = when (is_part d.kind) p ++ (when none q ++ (enrolled p true k ++ enrolled q false r))

-- "a parent that loses its last child is taken out": the parent is q, and w is what is left
abbrev pub bereft : ℕ → Tree → List ℕ → List ℕ
bereft q w ys = cond (childless q w) (strike ys q) ys

-- what is left of the tree no longer has the piece x; then come the new nodes, under its parent q
abbrev pub renewed : ℕ → Tree → Tree → List ℕ → List ℕ
renewed q left new ys = bereft q left ys ++ enrolled q (childless q left) new

-- the list when b is booked in the free piece d at x
unfoldable pub booked_list : ℕ → ℕ → Datum → Booking → Tree → List ℕ → List ℕ
booked_list limit x d b w ys = renewed (parent_of limit x w) (less x w) (block b d) ys

-- the list when the piece at x is removed: the new node is a free piece, and brings nothing but its parent
unfoldable pub removed_list : ℕ → ℕ → Tree → List ℕ → List ℕ
removed_list limit x w ys =
    let q = parent_of limit x w in
    let left = cleared x w in
    bereft q left (strike_all ys (leaving (subtree x w))) ++ when (childless q left) q
