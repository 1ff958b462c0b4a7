-- More laws of `laid`, beside those of piece's Sizes. The one file of the soundness laws that looks at the cut.
use mathlib.Core.Path.{◌≡◌, ◌∙◌}
use mathlib.Core.Bool.{true}
use Prim.Native.Nat.{◌≤◌}
use Rattle.piece.specs.declared.orientation.Orientation.{Orientation}
use Rattle.piece.specs.declared.orientation.Orientation.TheVariants.{Horizontal, Vertical}
use Rattle.piece.specs.declared.size.Size.{Size}
use Rattle.piece.specs.Sides.{laid}
use Rattle.piece.specs.Offers.{fits}
use Rattle.tree.specs.Sound.{Sided}
use Rattle.piece.proofs.Sizes.{fits-laid, fits-sides}
use Rattle.tree.proofs.Pieces.{sided}

pub laid-sided : (c : Orientation) {s : Size} → Sided s → Sided (laid c s)
laid-sided Horizontal h = sided h.wide h.tall
laid-sided Vertical h = sided h.tall h.wide

pub laid-fits : (c : Orientation) (piece part : Size) → fits piece part ≡ true
    → ((laid c part).width ≤ (laid c piece).width) × ((laid c part).height ≤ (laid c piece).height)
laid-fits c piece part e = fits-sides (laid c piece) (laid c part) (fits-laid c piece part ∙ e)
