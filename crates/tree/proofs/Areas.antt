-- Areas: the pieces of a row and what was eaten behind them fill the side across it, and in all the parts and free pieces of a row, and what was
-- eaten, hold the row's whole area. The cut is named once, in `row-area`. Assumes nothing.
use mathlib.Core.Bool.{cond}
use mathlib.Core.Path.{◌≡◌, refl, ◌∙◌}
use Prim.Native.Nat.{ℕ, ◌+◌, ◌*◌}
use native.Mathlib.Nat.{mul_comm}
use native.Mathlib.Omega.{arith}
use Rattle.piece.specs.declared.orientation.Orientation.{Orientation}
use Rattle.piece.specs.declared.orientation.Orientation.TheVariants.{Horizontal, Vertical}
use Rattle.piece.specs.declared.size.Size.{Size}
use Rattle.piece.specs.declared.node.Datum.{Datum}
use Rattle.piece.specs.declared.node.Kind.{Kind}
use Rattle.piece.specs.declared.node.Kind.TheVariants.{Free, Part, Structure}
use Rattle.piece.specs.declared.settings.Settings.{Settings}
use Rattle.piece.specs.Sides.{other, laid, area}
use Rattle.piece.specs.Row.{nil, grow}
use Rattle.piece.specs.Kinds.{is_free, is_part}
use Rattle.tree.specs.Tree.{Tree}
use Rattle.tree.specs.Sound.{extent, StructurePiece, Kinded, Children, Sound}
use Rattle.tree.specs.Figures.{part_area, free_area, eaten_under, eaten_area}

-- the two sides make the area, whichever cut names them
pub area-laid : (c : Orientation) (s : Size) → (laid c s).width * (laid c s).height ≡ area s
area-laid Horizontal s = refl
area-laid Vertical s = mul_comm s.height s.width

-- the area of a row of pieces with the cut c: of its own pieces and of the strips that were eaten behind them, and not of what is below them
abbrev pub row_area : Orientation → Tree → ℕ
row_area c nil = 0
row_area c (grow p d k r) = area d.size + d.eaten * (laid c d.size).height + row_area c r

-- a row of children is as wide as its pieces and what was eaten together, and as high as their parent
pub row-area : (settings : Settings) (q : Datum) (r : Tree) → Children settings q r
    → row_area (other q.cut) r ≡ extent (other q.cut) r * (laid (other q.cut) q.size).height
row-area settings q nil h = omega arith
row-area settings q (grow p d k r) h =
    let c = other q.cut in
    let side : (laid c d.size).height ≡ (laid c q.size).height = rw h.child.cut at h.child.side in
    let here : (laid c d.size).width * (laid c q.size).height ≡ area d.size = rw side at (area-laid c d.size) in
    let strip : d.eaten * (laid c d.size).height ≡ d.eaten * (laid c q.size).height = rw side in
    let rest = row-area settings q r h.beside in
    omega arith

-- the children of a structure fill it
pub filled-area : (settings : Settings) (d : Datum) (k : Tree) → StructurePiece d k → Children settings d k
    → row_area (other d.cut) k ≡ area d.size
filled-area settings d k s h = rw (row-area settings d k h, s.filled) (area-laid (other d.cut) d.size)

-- what is held below a cut of this way: by parts, by free pieces, and by what was eaten
abbrev pub held : Orientation → Tree → ℕ
held c r = part_area r + free_area r + eaten_under c r

-- a piece of this kind and what is below it: a part or a free piece holds its own area, and what is below a structure holds the structure's
piece-area : (κ : Kind) (d : Datum) (k r : Tree) → Kinded κ d k r → (StructurePiece d k → held d.cut k ≡ area d.size)
    → (cond (is_part κ) (area d.size) 0 + part_area k) + (cond (is_free κ) (area d.size) 0 + free_area k) + eaten_under d.cut k ≡ area d.size
piece-area Free d k r f below = rw f.childless (omega arith)
piece-area Part d k r f below = rw f.childless (omega arith)
piece-area Structure d k r f below = omega (arith, below f)

-- the parts and free pieces of a row, and what was eaten, hold the area of the row
pub row-held : (settings : Settings) (q : Datum) (r : Tree) → Children settings q r → held q.cut r ≡ row_area (other q.cut) r
row-held settings q nil h = refl
row-held settings q (grow p d k r) h =
    let below = row-held settings d k h.below in
    let rest = row-held settings q r h.beside in
    let here = piece-area d.kind d k r h.kinded (λ s. below ∙ filled-area settings d k s h.below) in
    omega arith

-- ---- the strips, each by its piece's own cut

-- the strip behind a piece, whose cut is not its parent's
abbrev pub own_strip : Datum → ℕ
own_strip d = d.eaten * (laid d.cut d.size).height

-- the strips of a row and below it
abbrev pub strips : Tree → ℕ
strips nil = 0
strips (grow p d k r) = own_strip d + (strips k + strips r)

row-strips : (settings : Settings) (q : Datum) (r : Tree) → Children settings q r → strips r ≡ eaten_under q.cut r
row-strips settings q nil h = refl
row-strips settings q (grow p d k r) h =
    rw (row-strips settings d k h.below, row-strips settings q r h.beside) (rw h.child.cut)

-- the sum by each piece's own cut is the eaten area
pub eaten-own : {limit : ℕ} {settings : Settings} (t : Tree) → Sound limit settings t → strips t ≡ eaten_area t
eaten-own nil s = refl
eaten-own {settings} (grow p d k r) s =
    let top = s.topped.0 in
    rw (top.eaten, top.alone, row-strips settings d k s.topped.1) (omega arith)
