-- No area is lost and none is made: "part area, free area and eaten area make the sheet", in every sound tree, whatever the blade's width. A
-- structure's own area counts for none. Document 01, "The sheet and its pieces" (the sides add up) and "Figures" (used area and free area);
-- document 02, No. 4 (eaten area).
use mathlib.Core.Path.{◌≡◌}
use Prim.Native.Nat.{ℕ, ◌+◌}
use native.Mathlib.Omega.{arith}
use Rattle.piece.specs.declared.settings.Settings.{Settings}
use Rattle.piece.specs.Sides.{area}
use Rattle.piece.specs.Row.{nil, grow}
use Rattle.tree.specs.Tree.{Tree}
use Rattle.tree.specs.Sound.{Sound}
use Rattle.tree.specs.Figures.{part_area, free_area, eaten_area}
use Rattle.tree.proofs.Areas.{row-held, filled-area}

pub area-conserved : {limit : ℕ} {settings : Settings} (t : Tree) → Sound limit settings t
    → part_area t + free_area t + eaten_area t ≡ area settings.sheet
area-conserved nil s = absurd s.topped
area-conserved {settings} (grow p d k r) s =
    let top = s.topped.0 in
    let below = row-held settings d k s.topped.1 in
    let full = filled-area settings d k top.piece s.topped.1 in
    rw (top.kind, top.alone, top.eaten, ← top.size) (omega arith)
