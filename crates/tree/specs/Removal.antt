-- Document 01, "Removal": "Let P be the parent. If P's last child is free, that piece and the removed one are replaced by one free piece,
-- widths added if P's cut is Vertical, heights if Horizontal. If not, the removed node becomes a free piece of its own size. The new piece goes
-- last. Part numbers of the subtree come out in tree order, first child first." Document 02, No. 4: "Removal gives that amount back to the freed
-- piece, merged or alone, and it goes last with nothing eaten behind it."
use Rattle.std.specs.Prelude.{cond, ◌&&◌, List, [], ◌∷◌, ◌++◌, ℕ, ◌+◌, eqb}
use Rattle.std.proofs.Math.Option.{Option, none, some}
use Rattle.piece.specs.declared.orientation.Orientation.{Orientation}
use Rattle.piece.specs.declared.size.Size.{Size}
use Rattle.piece.specs.declared.node.Datum.{Datum}
use Rattle.piece.specs.declared.node.Kind.TheVariants.{Free}
use Rattle.piece.specs.Sides.{sized, laid}
use Rattle.piece.specs.Row.{nil, grow}
use Rattle.piece.specs.Kinds.{is_free, is_part}
use Rattle.tree.specs.Tree.{Tree, is_nil, after, change}
use Rattle.tree.specs.Sound.{reach}

-- the free piece with this serial that stands where d stood, of this size
abbrev pub freed : ℕ → Datum → Size → Datum
freed s d size = record { serial = s; size = size; number = 0; level = d.level; kind = Free; cut = d.cut; eaten = 0 }

-- what the free piece of a row has of the side that their parent's cut divides, if there is one
abbrev pub spare : Orientation → Option Datum → ℕ
spare c none = 0
spare c (some e) = (laid c e.size).width

-- the board of d, with the free piece of its row if there is one: of the side that their parent's cut divides it has what d took, with what was
-- eaten behind d, and what that piece has
unfoldable pub board : Datum → Option Datum → Size
board d o = laid d.cut (sized (reach d.cut d + spare d.cut o) (laid d.cut d.size).height)

-- the last piece of a row, if it is free; and the row without it
abbrev pub last_free : Tree → Option Datum
last_free nil = none
last_free (grow p d k r) = cond (is_free d.kind && is_nil r) (some d) (last_free r)

abbrev pub without_last : Tree → Tree
without_last nil = nil
without_last (grow p d k r) = cond (is_free d.kind && is_nil r) nil (grow p d k (without_last r))

-- the later siblings r of the piece d that goes; the new piece has the place n and the serial s
unfoldable pub settled : ℕ → ℕ → Datum → Tree → Tree
settled n s d r = after (without_last r) (grow n (freed s d (board d (last_free r))) nil nil)

-- the piece x goes
abbrev pub remove : ℕ → ℕ → ℕ → Tree → Tree
remove x n s t = change x (settled n s) t

-- what is left of the tree before the new piece is there: x with all below it, and the free piece at the end of its row, are gone
abbrev pub left : Datum → Tree → Tree
left d r = without_last r

abbrev pub cleared : ℕ → Tree → Tree
cleared x t = change x left t

-- the piece x with all below it
abbrev pub subtree : ℕ → Tree → Tree
subtree x nil = nil
subtree x (grow y d k r) = cond (eqb y x) (grow y d k nil) (after (subtree x k) (subtree x r))

-- the part numbers of a row in tree order
abbrev pub numbers : Tree → List ℕ
numbers nil = []
numbers (grow p d k r) = cond (is_part d.kind) (d.number ∷ (numbers k ++ numbers r)) (numbers k ++ numbers r)

-- the part numbers that come out with x
abbrev pub removed_numbers : ℕ → Tree → List ℕ
removed_numbers x t = numbers (subtree x t)
