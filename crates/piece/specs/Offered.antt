-- Document 01, refusal 7: "this rotation and shape aren't offered here".
use Rattle.std.specs.Prelude.{Bool, false, ◌&&◌, ◌||◌, List, [], ◌∷◌, eqb}
use Rattle.piece.specs.declared.settings.Settings.{Settings}
use Rattle.piece.specs.declared.rotation.Rotation.{Rotation}
use Rattle.piece.specs.declared.parttype.PartType.{PartType}
use Rattle.piece.specs.declared.node.Datum.{Datum}
use Rattle.piece.specs.declared.insertion_blueprint.InsertionShape.{InsertionShape}
use Rattle.piece.specs.declared.insertion_option.Offer.{Offer}
use Rattle.piece.specs.Numbers.{rotation_no, shape_no}
use Rattle.piece.specs.Offers.{offers_of}

-- they have the same number
abbrev pub same_rotation : Rotation → Rotation → Bool
same_rotation r q = eqb (rotation_no r) (rotation_no q)

abbrev pub same_shape : InsertionShape → InsertionShape → Bool
same_shape s u = eqb (shape_no s) (shape_no u)

abbrev pub same_offer : Rotation → InsertionShape → Offer → Bool
same_offer r s o = same_rotation o.rotation r && same_shape o.shape s

-- one of the offers is this one
abbrev pub among_b : Rotation → InsertionShape → List Offer → Bool
among_b r s [] = false
among_b r s (o ∷ os) = same_offer r s o || among_b r s os

-- the free piece d offers the part in this rotation and shape
unfoldable pub offered_b : Datum → PartType → Settings → Rotation → InsertionShape → Bool
offered_b d p settings r s = among_b r s (offers_of d p settings)
