-- Document 01, "Offers": what a free piece offers for a part.
use Rattle.std.specs.Prelude.{Bool, true, false, cond, ◌&&◌, List, [], ◌∷◌, ◌++◌, ℕ, ◌+◌, eqb, ltb, leb, length, take, replicate, set, Option, Some, None}
use Rattle.piece.specs.declared.orientation.Orientation.{Orientation}
use Rattle.piece.specs.declared.rotation.Rotation.{Rotation}
use Rattle.piece.specs.declared.rotation.Rotation.TheVariants.{Default, Rotated}
use Rattle.piece.specs.declared.parttype.PartType.{PartType}
use Rattle.piece.specs.declared.size.Size.{Size}
use Rattle.piece.specs.declared.settings.Settings.{Settings}
use Rattle.piece.specs.declared.node.Datum.{Datum}
use Rattle.piece.specs.declared.insertion_blueprint.InsertionShape.{InsertionShape}
use Rattle.piece.specs.declared.insertion_blueprint.InsertionShape.TheVariants.{AlongCurrentCut, AcrossCurrentCut, AlongThenAcross, AcrossThenAlong}
use Rattle.piece.specs.declared.insertion_option.Offer.{Offer}
use Rattle.piece.specs.declared.insertion_option.OfferList.{OfferList}
use Rattle.piece.specs.Sides.{exchanged, laid}

abbrev pub other_way : Rotation → Rotation
other_way Default = Rotated
other_way Rotated = Default

-- "then Rotated (sides exchanged)"
abbrev pub turned : Rotation → Size → Size
turned Default s = s
turned Rotated s = exchanged s

-- "less those the part forbids"
abbrev pub allowed : Option Rotation → Rotation → Bool
allowed None r = true
allowed (Some Default) Default = true
allowed (Some Default) Rotated = false
allowed (Some Rotated) Default = false
allowed (Some Rotated) Rotated = true

-- "A rotation that does not fit both ways gives nothing."
abbrev pub fits : Size → Size → Bool
fits piece part = leb part.width piece.width && leb part.height piece.height

-- "For a free piece with cut Horizontal, along means equal heights and across equal widths; with Vertical the reverse."
abbrev pub along : Orientation → Size → Size → Bool
along c piece part = eqb (laid c piece).height (laid c part).height

abbrev pub across : Orientation → Size → Size → Bool
across c piece part = eqb (laid c piece).width (laid c part).width

abbrev pub only : Bool → InsertionShape → List InsertionShape
only b s = cond b (s ∷ []) []

-- "Then, first match wins": whether it is an along fit, whether an across fit, the level and the stages
unfoldable pub shapes : Bool → Bool → ℕ → ℕ → List InsertionShape
shapes al ac level stages =
    cond al (AlongCurrentCut ∷ [])
    (cond (ac && ltb level stages) (AcrossCurrentCut ∷ [])
    (only (ltb level stages) AlongThenAcross ++ only (ltb (level + 1) stages) AcrossThenAlong))

abbrev pub offer : Rotation → InsertionShape → Offer
offer r s = record { rotation = r; shape = s }

abbrev pub in_rotation : Rotation → List InsertionShape → List Offer
in_rotation r [] = []
in_rotation r (s ∷ ss) = offer r s ∷ in_rotation r ss

-- the offers of one rotation
unfoldable pub offers_in : Datum → PartType → Settings → Rotation → List Offer
offers_in piece part settings r =
    let p = turned r part.size in
    cond (allowed part.fixed_rotation r && fits piece.size p)
    (in_rotation r (shapes (along piece.cut piece.size p) (across piece.cut piece.size p) piece.level settings.stages))
    []

-- "Rotations come Default first, then Rotated"
unfoldable pub offers_of : Datum → PartType → Settings → List Offer
offers_of piece part settings = offers_in piece part settings Default ++ offers_in piece part settings Rotated

-- the list as the code holds it: four entries and a count; past the count stands the zero entry
abbrev pub no_offer : Offer
no_offer = offer Default AlongCurrentCut

unfoldable pub as_offer_list : List Offer → OfferList
as_offer_list l = record { list = take 4 (l ++ replicate 4 no_offer); count = length l }

abbrev pub no_offers : OfferList
no_offers = record { list = replicate 4 no_offer; count = 0 }

-- one offer more, and several
abbrev pub with_offer : OfferList → Offer → OfferList
with_offer o x = record { list = set o.list o.count x; count = o.count + 1 }

abbrev pub with_offers : OfferList → List Offer → OfferList
with_offers o [] = o
with_offers o (x ∷ xs) = with_offers (with_offer o x) xs
