-- The board of a piece that goes: what it has of the side that its parent's cut divides is a side of the board, so that it fits where that does.
-- Assumes nothing.
use mathlib.Core.Option.{Option}
use Prim.Native.Nat.{ℕ, ◌+◌, ◌≤◌}
use Rattle.piece.specs.declared.node.Datum.{Datum}
use Rattle.piece.specs.declared.orientation.Orientation.{Orientation}
use Rattle.piece.specs.declared.orientation.Orientation.TheVariants.{Horizontal, Vertical}
use Rattle.piece.specs.Sides.{laid, sized}
use Rattle.tree.specs.Sound.{reach}
use Rattle.tree.specs.Removal.{board, spare}

side-fits : (cut : Orientation) (w h : ℕ) {most : ℕ} → (laid cut (sized w h)).width ≤ most → (laid cut (sized w h)).height ≤ most → w ≤ most
side-fits Horizontal w h a b = a
side-fits Vertical w h a b = b

pub board-fits : (d : Datum) (o : Option Datum) {most : ℕ} → (board d o).width ≤ most → (board d o).height ≤ most
    → reach d.cut d + spare d.cut o ≤ most
unfolding board
board-fits d o a b = side-fits d.cut (reach d.cut d + spare d.cut o) (laid d.cut d.size).height a b
