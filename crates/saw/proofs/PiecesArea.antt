-- The boards that the saw gives and what was eaten have together the area of the sheet: no area is lost with the free pieces that are left out. Rests on
-- tree's law that part area, free area and eaten area make the sheet.
use mathlib.Core.Path.{◌≡◌, refl}
use mathlib.Core.Bool.{cond}
use mathlib.Core.Logic.{⊎_elim}
use mathlib.Core.List.{List, [], ◌∷◌, ◌++◌}
use Prim.Native.Nat.{ℕ, ◌+◌}
use native.Mathlib.Omega.{arith}
use lib.Dec.{eqb}
use borrow.Author.Tests.{eqb-true}
use Rattle.piece.specs.declared.size.Size.{Size}
use Rattle.piece.specs.declared.node.Kind.{Kind}
use Rattle.piece.specs.declared.node.Kind.TheVariants.{Free, Part, Structure}
use Rattle.piece.specs.declared.settings.Settings.{Settings}
use Rattle.piece.specs.Sides.{area}
use Rattle.piece.specs.Row.{nil, grow}
use Rattle.piece.specs.Kinds.{is_free, is_part}
use Rattle.tree.specs.Tree.{Tree}
use Rattle.tree.specs.Sound.{Sound}
use Rattle.tree.specs.Figures.{part_area, free_area, eaten_area}
use Rattle.tree.proofs.Laws.AreaConserved.{area-conserved}
use Rattle.lists.proofs.Scan.{test}
use Rattle.saw.specs.Cuts.{own_board, boards}

-- the areas of boards, added up
abbrev pub areas : List Size → ℕ
areas [] = 0
areas (s ∷ l) = area s + areas l

areas-append : (a b : List Size) → areas (a ++ b) ≡ areas a + areas b
areas-append [] b = omega arith
areas-append (s ∷ a) b = omega (arith, areas-append a b)

own-area : (κ : Kind) (s : Size) → areas (own_board κ s) ≡ cond (is_part κ) (area s) 0 + cond (is_free κ) (area s) 0
own-area Free s = ⊎_elim (λ e. rw e (omega (arith, eqb-true (area s) 0 e))) (λ e. rw e (omega arith)) (test (eqb (area s) 0))
own-area Part s = omega arith
own-area Structure s = refl

boards-area : (t : Tree) → areas (boards t) ≡ part_area t + free_area t
boards-area nil = refl
boards-area (grow p d k r) =
    let own = own_board d.kind d.size in
    omega (
      arith,
      areas-append own (boards k ++ boards r),
      areas-append (boards k) (boards r),
      own-area d.kind d.size,
      boards-area k,
      boards-area r,
    )

pub pieces-area : {limit : ℕ} {settings : Settings} (t : Tree) → Sound limit settings t → areas (boards t) + eaten_area t ≡ area settings.sheet
pieces-area t h = omega (arith, boards-area t, area-conserved t h)
