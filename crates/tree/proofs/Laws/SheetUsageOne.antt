-- The usage of the sheet, the f64 quotient of used area and sheet area, "is exactly 1 if and only if no free area is left" and nothing was eaten.
-- Document 01, "Figures"; document 02, No. 4.
use mathlib.Core.Path.{◌≡◌}
use mathlib.Core.Logic.{◌↔◌}
use Prim.Native.Nat.{ℕ}
use native.Mathlib.Omega.{arith}
use Rattle.piece.specs.declared.settings.Settings.{Settings}
use Rattle.piece.specs.Sides.{area}
use Rattle.tree.specs.Tree.{Tree}
use Rattle.tree.specs.Sound.{Sound}
use Rattle.tree.specs.Figures.{part_area, free_area, eaten_area, one, sheet_usage}
use Rattle.tree.proofs.Whole.{full-is-one, one-is-full}
use Rattle.tree.proofs.Usage.{sheet-small, sheet-positive}
use Rattle.tree.proofs.Laws.AreaConserved.{area-conserved}

pub sheet-usage-one : {limit : ℕ} {settings : Settings} (t : Tree) → Sound limit settings t
    → (sheet_usage (part_area t) (area settings.sheet) ≡ one) ↔ ((free_area t ≡ 0) × (eaten_area t ≡ 0))
unfolding sheet_usage
sheet-usage-one {settings} t s =
    let z = settings.sheet in
    let whole = area-conserved t s in
    let small = sheet-small s.domain in
    let some = sheet-positive s.domain in (
      (λ e. let full = one-is-full (part_area t) (area z) (omega arith) some (omega arith) e in (omega arith, omega arith)),
      λ e. let full : part_area t ≡ area z = omega arith in rw full (full-is-one (area z) some (omega arith)),
    )
