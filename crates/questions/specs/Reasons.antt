-- Request 2, "Tell the customer why not": what a free piece says of a part in one rotation. It rests on the rules of offers (piece).
use Rattle.std.specs.Prelude.{Bool, cond, not, ◌&&◌, ℕ, ltb, leb}
use Rattle.piece.specs.declared.size.Size.{Size}
use Rattle.piece.specs.declared.node.Datum.{Datum}
use Rattle.piece.specs.declared.parttype.PartType.{PartType}
use Rattle.piece.specs.declared.rotation.Rotation.{Rotation}
use Rattle.piece.specs.declared.settings.Settings.{Settings}
use Rattle.piece.specs.Offers.{allowed, along, turned}
use Rattle.questions.specs.declared.reason.Reason.{Reason}
use Rattle.questions.specs.declared.reason.Reason.TheVariants.{Forbidden, TooWide, TooTall, TooWideAndTall, StagesUsedUp, Offered}

-- "turn forbidden, too wide, too tall, too wide and too tall, stages used up, or offered": the number of each, in this order
abbrev pub reason_no : Reason → ℕ
reason_no Forbidden = 0
reason_no TooWide = 1
reason_no TooTall = 2
reason_no TooWideAndTall = 3
reason_no StagesUsedUp = 4
reason_no Offered = 5

-- "Each is named exactly when it holds, forbidden first": whether the turn is allowed, the part too wide, too tall, an along fit, and whether "the
-- level has reached the stages". What is too wide or too tall does not fit, so that stages are looked at only where the part fits.
abbrev pub reason_of : Bool → Bool → Bool → Bool → Bool → Reason
reason_of allows wide tall al reached =
    cond (not allows) Forbidden
    (cond (wide && not tall) TooWide
    (cond (not wide && tall) TooTall
    (cond (wide && tall) TooWideAndTall
    (cond (not al && reached) StagesUsedUp
    Offered))))

abbrev pub too_wide : Size → Size → Bool
too_wide piece part = ltb piece.width part.width

abbrev pub too_tall : Size → Size → Bool
too_tall piece part = ltb piece.height part.height

-- the reason of one rotation
unfoldable pub reason_in : Datum → PartType → Settings → Rotation → Reason
reason_in piece part settings r =
    let p = turned r part.size in
    reason_of (allowed part.fixed_rotation r) (too_wide piece.size p) (too_tall piece.size p) (along piece.cut piece.size p)
    (leb settings.stages piece.level)
