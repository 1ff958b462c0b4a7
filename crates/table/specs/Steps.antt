-- The steps of a booking and of a removal on tables: the nodes of a block are appended one by one, and the places of a subtree are unlinked one
-- by one. The same steps on trees are those of crate `tree`.
use Rattle.std.specs.Prelude.{List, [], ◌∷◌, ◌++◌, Bool, cond, ℕ, set, replicate}
use Rattle.std.proofs.Math.Option.{Option, none, some}
use Rattle.piece.specs.declared.node.Datum.{Datum}
use Rattle.piece.specs.Row.{nil, grow}
use Rattle.piece.specs.declared.insertion_blueprint.InsertionNode.{InsertionNode}
use Rattle.piece.specs.Insertion.{Made}
use Rattle.piece.specs.Kinds.{is_free}
use Rattle.tree.specs.Tree.{Tree}
use Rattle.tree.specs.Removal.{subtree}
use Rattle.tree.specs.Steps.{leaving}
use Rattle.table.specs.declared.Node.{Node}
use Rattle.table.specs.Table.{mk, zero_node, at, append, unlink}

-- the table with the top d alone
unfoldable pub top_only : ℕ → Datum → List Node
top_only limit d = set (replicate limit zero_node) 0 (mk d limit limit limit limit limit)

-- the nodes of a row are appended under q, each one before its children and these before the next: the order of creation
abbrev pub plant : ℕ → List Node → ℕ → Tree → List Node
plant limit t q nil = t
plant limit t q (grow p d k r) = plant limit (plant limit (append limit t q p d) p k) q r

-- a node of a blueprint as one of a block
abbrev pub made_of : InsertionNode → Made
made_of n = record { kind = n.kind; size = n.size; eaten = n.eaten }

-- places are unlinked one after the other
abbrev pub unlink_all : ℕ → List Node → List ℕ → List Node
unlink_all limit t [] = t
unlink_all limit t (p ∷ ps) = unlink_all limit (unlink limit t p) ps

-- the place of the last child of q, if that is free, and its datum, as the table shows them
abbrev pub free_last : List Node → ℕ → Bool
free_last t q = is_free (at t (at t q).last).datum.kind

unfoldable pub free_last_place : List Node → ℕ → List ℕ
free_last_place t q = cond (free_last t q) ((at t q).last ∷ []) []

unfoldable pub free_last_datum : List Node → ℕ → Option Datum
free_last_datum t q = cond (free_last t q) (some (at t (at t q).last).datum) none

-- the places that a removal of x unlinks, in their order: those of its subtree, and that of its parent's last child if that is free
abbrev pub going : List Node → ℕ → Tree → List ℕ
going t x w = leaving (subtree x w) ++ free_last_place t (at t x).parent
