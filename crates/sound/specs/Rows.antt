-- Document 01, "Sound layout", the clauses that speak of a parent and its children, as a test: the children of q are walked by their links.
use Rattle.std.specs.Prelude.{List, Bool, true, false, cond, not, ◌&&◌, ℕ, zero, suc, ◌+◌, eqb, leb}
use Rattle.piece.specs.declared.orientation.Orientation.{Orientation}
use Rattle.piece.specs.declared.orientation.Orientation.TheVariants.{Horizontal, Vertical}
use Rattle.piece.specs.declared.node.Datum.{Datum}
use Rattle.piece.specs.declared.settings.Settings.{Settings}
use Rattle.piece.specs.Sides.{other, laid}
use Rattle.piece.specs.Kinds.{is_structure}
use Rattle.tree.specs.Sound.{reach}
use Rattle.table.specs.declared.Node.{Node}
use Rattle.table.specs.Table.{at}
use Rattle.lists.specs.Search.{every}

abbrev pub same_cut : Orientation → Orientation → Bool
same_cut Horizontal Horizontal = true
same_cut Horizontal Vertical = false
same_cut Vertical Horizontal = false
same_cut Vertical Vertical = true

-- n hangs under q, after the sibling pv
unfoldable pub hung_under_b : ℕ → ℕ → Node → Bool
hung_under_b q pv n = not (eqb n.datum.serial 0) && (eqb n.parent q && eqb n.prev pv)

-- "a child's level is its parent's plus 1 and at most the stages; a child's cut is the other one; under a Vertical cut children have the parent's
-- height .., under a Horizontal cut the reverse": of a child d of the piece q
unfoldable pub child_datum_b : Settings → Datum → Datum → Bool
child_datum_b settings q d =
    eqb d.level (q.level + 1) && (leb d.level settings.stages
    && (same_cut d.cut (other q.cut) && eqb (laid d.cut d.size).height (laid d.cut q.size).height))

-- "No recorded amount exceeds the blade width, and .. each last child record[s] 0": of a child with this next sibling
unfoldable pub eaten_b : ℕ → Settings → Node → Bool
eaten_b limit settings n = cond (eqb n.next limit) (eqb n.datum.eaten 0) (leb n.datum.eaten settings.blade)

-- n is a child of q, which is `up`, after the sibling pv
unfoldable pub child_b : ℕ → Settings → Node → ℕ → ℕ → Node → Bool
child_b limit settings up q pv n =
    hung_under_b q pv n && (child_datum_b settings up.datum n.datum && eaten_b limit settings n)

-- what a child takes of the side that its parent's cut divides, with what was eaten behind it
abbrev pub step : Node → ℕ
step n = reach n.datum.cut n.datum

-- the side of a parent that its children fill
abbrev pub room : Node → ℕ
room n = (laid (other n.datum.cut) n.datum.size).width

-- a row ends as it should, at p, after pv: at no place, at its parent's last child, with its parent's side filled
unfoldable pub end_b : ℕ → Node → ℕ → ℕ → ℕ → Bool
end_b limit up pv p sum = eqb p limit && (eqb up.last pv && eqb sum (room up))

-- the siblings from p on, fewer than so many, are children of q after pv and end as they should; the ones before have taken `sum`, and "extents
-- of siblings plus what was eaten add to the parent's"
unfoldable pub chain_b : ℕ → Settings → List Node → ℕ → ℕ → ℕ → ℕ → ℕ → Bool
chain_b limit settings t q zero pv p sum = false
chain_b limit settings t q (suc m) pv p sum =
    let r = chain_b limit settings t q m p (at t p).next (sum + step (at t p)) in
    cond (leb limit p) (end_b limit (at t q) pv p sum) (cond (child_b limit settings (at t q) q pv (at t p)) r false)

-- the node is held and has children
abbrev pub parent_b : Node → Bool
parent_b n = not (eqb n.datum.serial 0) && is_structure n.datum.kind

-- a held structure's row; the other places have none
abbrev pub row_b : ℕ → Settings → List Node → ℕ → Bool
row_b limit settings t q =
    let r = chain_b limit settings t q limit limit (at t q).first 0 in cond (parent_b (at t q)) r true

unfoldable pub rows_b : ℕ → Settings → List Node → Bool
rows_b limit settings t = every (row_b limit settings t) limit
