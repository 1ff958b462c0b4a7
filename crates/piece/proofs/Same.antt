-- What `==` says of two offers: that their rotations and shapes have the same numbers.
use mathlib.Core.Path.{◌≡◌, refl}
use mathlib.Core.Bool.{◌&&◌}
use mathlib.Core.List.{List, [], ◌∷◌}
use denote.Enum.Bare.{sameb}
use Rattle.piece.specs.contracts.rotation.Rotation as rotation
use Rattle.piece.specs.contracts.insertion_blueprint.InsertionShape as shape
use Rattle.piece.specs.declared.rotation.Rotation.{Rotation}
use Rattle.piece.specs.declared.rotation.Rotation.TheVariants.{Default, Rotated}
use Rattle.piece.specs.declared.insertion_blueprint.InsertionShape.{InsertionShape}
use Rattle.piece.specs.declared.insertion_blueprint.InsertionShape.TheVariants.{AlongCurrentCut, AcrossCurrentCut, AlongThenAcross, AcrossThenAlong}
use Rattle.std.specs.List.{list_any}
use Rattle.piece.specs.declared.insertion_option.Offer.{Offer}
use Rattle.piece.specs.Offered.{same_rotation, same_shape, among_b}

pub same-rotation : (r q : Rotation) → sameb rotation.the_type r q ≡ same_rotation r q
same-rotation Default Default = refl
same-rotation Default Rotated = refl
same-rotation Rotated Default = refl
same-rotation Rotated Rotated = refl

pub same-shape : (s u : InsertionShape) → sameb shape.the_type s u ≡ same_shape s u
same-shape AlongCurrentCut AlongCurrentCut = refl
same-shape AlongCurrentCut AcrossCurrentCut = refl
same-shape AlongCurrentCut AlongThenAcross = refl
same-shape AlongCurrentCut AcrossThenAlong = refl
same-shape AcrossCurrentCut AlongCurrentCut = refl
same-shape AcrossCurrentCut AcrossCurrentCut = refl
same-shape AcrossCurrentCut AlongThenAcross = refl
same-shape AcrossCurrentCut AcrossThenAlong = refl
same-shape AlongThenAcross AlongCurrentCut = refl
same-shape AlongThenAcross AcrossCurrentCut = refl
same-shape AlongThenAcross AlongThenAcross = refl
same-shape AlongThenAcross AcrossThenAlong = refl
same-shape AcrossThenAlong AlongCurrentCut = refl
same-shape AcrossThenAlong AcrossCurrentCut = refl
same-shape AcrossThenAlong AlongThenAcross = refl
same-shape AcrossThenAlong AcrossThenAlong = refl

-- an offer that is equal to one of a list is among them
pub among-same : (r : Rotation) (s : InsertionShape) (l : List Offer)
    → list_any (λ (o : Offer). sameb rotation.the_type o.rotation r && sameb shape.the_type o.shape s) l ≡ among_b r s l
among-same r s [] = refl
among-same r s (o ∷ l) = rw (same-rotation o.rotation r, same-shape o.shape s, among-same r s l) refl
