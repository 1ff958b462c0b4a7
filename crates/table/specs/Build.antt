-- The tree that a table holds, read by its links.
use Rattle.std.specs.Prelude.{List, cond, ℕ, zero, suc, leb}
use Rattle.piece.specs.Row.{nil, grow}
use Rattle.tree.specs.Tree.{Tree}
use Rattle.table.specs.declared.Node.{Node}
use Rattle.table.specs.Table.{at}

-- the siblings from p on, at most so many, each with the children that `sub` gives it
unfoldable pub chain : ℕ → (ℕ → Tree) → ℕ → List Node → ℕ → Tree
chain limit sub zero t p = nil
chain limit sub (suc m) t p =
    let r = chain limit sub m t (at t p).next in let k = sub p in cond (leb limit p) nil (grow p (at t p).datum k r)

-- the children of p, down to so many levels
unfoldable pub kids : ℕ → ℕ → List Node → ℕ → Tree
kids limit zero t p = nil
kids limit (suc n) t p = chain limit (kids limit n t) limit t (at t p).first

unfoldable pub tree_of : ℕ → List Node → Tree
tree_of limit t = grow 0 (at t 0).datum (kids limit limit t 0) nil
