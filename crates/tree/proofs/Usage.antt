-- Tree usage where no free piece has area and nothing was eaten: each piece's area times its usage is its area, and the sums of areas are exact. Assumes nothing.
use mathlib.Core.Path.{◌≡◌, ap}
use mathlib.Core.Bool.{cond}
use Prim.Native.Nat.{ℕ, ◌+◌, ◌^◌, ◌≤◌, ◌<◌}
use native.Mathlib.Nat.{mul-pos, lt_of_le_of_lt, mul-le-mul_left}
use native.Mathlib.Omega.{arith}
use lib.Ieee.{binary64, mul}
use Rattle.piece.specs.declared.node.Datum.{Datum}
use Rattle.piece.specs.declared.node.Kind.{Kind}
use Rattle.piece.specs.declared.node.Kind.TheVariants.{Free, Part, Structure}
use Rattle.piece.specs.declared.settings.Settings.{Settings}
use Rattle.piece.specs.Sides.{other, area}
use Rattle.piece.specs.Row.{nil, grow}
use Rattle.piece.specs.Kinds.{is_free}
use Rattle.tree.specs.Tree.{Tree}
use Rattle.tree.specs.Sound.{Domain, StructurePiece, Kinded, Children}
use Rattle.tree.specs.Figures.{free_area, eaten_under, nought, one, whole, usage_of, added}
use Rattle.tree.proofs.Areas.{row_area, filled-area}
use Rattle.tree.proofs.Whole.{nought-whole, add-whole, mul-one-whole, mul-nought, full-is-one}

-- "areas stay below 2^52"
pub sheet-small : {settings : Settings} → Domain settings → area settings.sheet < 2 ^ 52
sheet-small {settings} h =
    lt_of_le_of_lt (mul-le-mul_left settings.sheet.width h.height) (omega (arith, h.width))

pub sheet-positive : {settings : Settings} → Domain settings → 0 < area settings.sheet
sheet-positive h = mul-pos h.wide h.tall

-- the children of a full structure, added up, give its area, so that its usage is 1
full-structure : (d : Datum) (k : Tree) → StructurePiece d k → area d.size ≤ 2 ^ 53
    → added (whole 0) k ≡ whole (area d.size) → usage_of Structure (area d.size) (added nought k) ≡ one
full-structure d k f small below = rw (nought-whole, below) (full-is-one (area d.size) (mul-pos f.sided.wide f.sided.tall) small)

-- what a piece of this kind adds
piece_added : (κ : Kind) (d : Datum) (k r : Tree) → Kinded κ d k r → cond (is_free κ) (area d.size) 0 ≡ 0 → area d.size ≤ 2 ^ 53
    → (StructurePiece d k → added (whole 0) k ≡ whole (area d.size))
    → mul binary64 (whole (area d.size)) (usage_of κ (area d.size) (added nought k)) ≡ whole (area d.size)
piece_added Free d k r f empty small below = rw empty mul-nought
piece_added Part d k r f empty small below = mul-one-whole (area d.size) small
piece_added Structure d k r f empty small below = rw (full-structure d k f small (below f)) (mul-one-whole (area d.size) small)

-- the row, added to n, gives m
pub row-added : (settings : Settings) (q : Datum) (r : Tree) → Children settings q r → free_area r ≡ 0 → eaten_under q.cut r ≡ 0 → (n m : ℕ)
    → n + row_area (other q.cut) r ≡ m → m ≤ 2 ^ 53 → added (whole n) r ≡ whole m
unfolding added
row-added settings q nil h empty uneaten n m e small = let same : n ≡ m = omega arith in ap whole same
row-added settings q (grow p d k r) h empty uneaten n m e small =
    let a = area d.size in
    let below = row-added settings d k h.below (omega arith) (omega arith) 0 a in
    let full : StructurePiece d k → 0 + row_area (other d.cut) k ≡ a = λ s. omega (arith, filled-area settings d k s h.below) in
    let here = piece_added d.kind d k r h.kinded (omega arith) (omega arith) (λ s. below (full s) (omega arith)) in
    rw (here, add-whole n a (omega arith) (omega arith)) (row-added settings q r h.beside (omega arith) (omega arith) (n + a) m (omega arith) small)

-- a structure in which no free piece has area and nothing was eaten
pub structure-full : (settings : Settings) (d : Datum) (k : Tree) → StructurePiece d k → Children settings d k → free_area k ≡ 0
    → eaten_under d.cut k ≡ 0 → area d.size ≤ 2 ^ 53 → usage_of Structure (area d.size) (added nought k) ≡ one
structure-full settings d k s h empty uneaten small =
    full-structure d k s small (row-added settings d k h empty uneaten 0 (area d.size) (omega (arith, filled-area settings d k s h)) small)
