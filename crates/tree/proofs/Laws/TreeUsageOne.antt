-- The tree usage of the top "is exactly 1 where no free piece has area" and nothing was eaten. Document 01, "Figures"; document 02, No. 4.
use mathlib.Core.Path.{◌≡◌}
use Prim.Native.Nat.{ℕ, ◌^◌, ◌≤◌}
use native.Mathlib.Omega.{arith}
use Rattle.piece.specs.declared.settings.Settings.{Settings}
use Rattle.piece.specs.Sides.{area}
use Rattle.piece.specs.Row.{nil, grow}
use Rattle.tree.specs.Tree.{Tree}
use Rattle.tree.specs.Sound.{Sound}
use Rattle.tree.specs.Figures.{free_area, eaten_area, one, tree_usage}
use Rattle.tree.proofs.Usage.{sheet-small, structure-full}

pub tree-usage-one : {limit : ℕ} {settings : Settings} (t : Tree) → Sound limit settings t → free_area t ≡ 0 → eaten_area t ≡ 0
    → tree_usage t ≡ one
tree-usage-one nil s e u = absurd s.topped
tree-usage-one {settings} (grow p d k r) s e u =
    let top = s.topped.0 in
    let small : area d.size ≤ 2 ^ 53 = rw top.size (omega (arith, sheet-small s.domain)) in
    rw top.kind (structure-full settings d k top.piece s.topped.1 (omega arith) (omega arith) small)
