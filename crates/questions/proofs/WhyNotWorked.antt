-- Document 01, "Sheet 100 x 60, first cut Vertical": the reasons of the free piece that the opening leaves, with cut Horizontal at level 1, for the
-- parts of the paper's cases and some more. Each row has the reasons of Default and of Rotated.
use mathlib.Core.Path.{◌≡◌, refl}
use mathlib.Core.List.{List, [], ◌∷◌}
use Prim.Native.Nat.{ℕ}
use Rattle.std.specs.Prelude.{Option, Some, None}
use Rattle.piece.specs.declared.rotation.Rotation.{Rotation}
use Rattle.piece.specs.declared.rotation.Rotation.TheVariants.{Default, Rotated}
use Rattle.piece.specs.declared.parttype.PartType.{PartType}
use Rattle.piece.specs.Sides.{sized}
use Rattle.tree.specs.Open.{first_free}
use Rattle.tree.specs.Worked.{opening}
use Rattle.questions.specs.declared.reason.Reason.{Reason}
use Rattle.questions.specs.declared.reason.Reason.TheVariants.{Forbidden, TooWide, TooTall, TooWideAndTall, StagesUsedUp, Offered}
use Rattle.questions.specs.Reasons.{reason_in}

-- the part, number 7, w x h
abbrev pub part : Option Rotation → ℕ → ℕ → PartType
part t w h = record { number = 7; size = sized w h; fixed_rotation = t }

abbrev pub both : Reason → Reason → List Reason
both d r = d ∷ r ∷ []

abbrev pub reasons : Option Rotation → ℕ → ℕ → ℕ → List Reason
reasons t w h stages =
    let o = opening stages in
    both (reason_in (first_free o) (part t w h) o.settings Default) (reason_in (first_free o) (part t w h) o.settings Rotated)

unfoldable pub computed : List (List Reason)
computed =
    reasons None 40 60 3
    ∷ reasons None 40 60 1
    ∷ reasons None 40 30 1
    ∷ reasons None 100 20 1
    ∷ reasons None 101 60 3
    ∷ reasons None 200 200 3
    ∷ reasons (Some Default) 40 60 3
    ∷ reasons (Some Default) 200 200 1
    ∷ reasons (Some Rotated) 101 60 1
    ∷ []

unfoldable pub paper : List (List Reason)
paper =
    -- a. 40 x 60: an along fit; turned it fits too, and has stages left
    both Offered Offered
    -- the same, stages 1: an along fit is offered at any level
    ∷ both Offered StagesUsedUp
    -- d. 40 x 30, stages 1: none
    ∷ both StagesUsedUp StagesUsedUp
    -- f. 100 x 20, stages 1: none; turned it is 20 x 100
    ∷ both StagesUsedUp TooTall
    -- h. 101 x 60: none; turned it is 60 x 101
    ∷ both TooWide TooTall
    -- 200 x 200
    ∷ both TooWideAndTall TooWideAndTall
    -- a with turn 1, Default only
    ∷ both Offered Forbidden
    -- forbidden first, though it is too wide and too tall
    ∷ both TooWideAndTall Forbidden
    -- h with turn 2, Rotated only
    ∷ both Forbidden TooTall
    ∷ []

pub worked : computed ≡ paper
unfolding computed paper reason_in
worked = refl
