-- Change request 3 (document 02): "A simple saw is defined that holds a pile of rectangles; a cut puts its pieces with area in that place, left or
-- upper first." The saw can't cut a piece that isn't there, nor at distance 0, nor past the piece's edge: then nothing comes of the whole list. What
-- a cut says of kinds is for the sawyer, and the saw does without it. Document 02, No. 4: "The saw of No. 3 loses the recorded amount with each cut": the
-- blade eats it behind the piece that is cut off.
use Rattle.std.specs.Prelude.{List, [], ◌∷◌, ◌++◌, Bool, cond, ◌&&◌, ℕ, zero, suc, ◌+◌, ◌-◌, eqb, leb, ltb}
use Rattle.std.proofs.Math.Option.{Option, none, some}
use Rattle.piece.specs.declared.orientation.Orientation.{Orientation}
use Rattle.piece.specs.declared.size.Size.{Size}
use Rattle.piece.specs.Sides.{area, laid, other, sized}
use Rattle.saw.specs.declared.cut.Cut.{Cut}

-- the side that a cut of this way divides: the width if it is Vertical, the height if it is Horizontal
abbrev pub side : Orientation → Size → ℕ
side way s = (laid (other way) s).width

-- a piece of s that has so much of that side, and all of the other one
abbrev pub slice : Orientation → ℕ → Size → Size
slice way n s = laid (other way) (sized n (laid (other way) s).height)

-- "its pieces with area"
abbrev pub with_area : Size → List Size
with_area s = cond (eqb (area s) 0) [] (s ∷ [])

-- what a cut makes of a piece, "left or upper first"
abbrev pub halves : Cut → Size → List Size
halves c s =
    with_area (slice c.way c.distance s) ++ with_area (slice c.way (side c.way s - (c.distance + c.eaten)) s)

-- the cut can be made in a piece of this size
abbrev pub cuts_b : Cut → Size → Bool
cuts_b c s = ltb 0 c.distance && leb (c.distance + c.eaten) (side c.way s)

-- with what there is, if there is something
abbrev pub and_then : {A : Type 0} → Option A → (A → Option A) → Option A
and_then none f = none
and_then (some pile) f = f pile

-- the pile after a cut of its piece at this place
abbrev pub saw_at : Cut → ℕ → List Size → Option (List Size)
saw_at c i [] = none
saw_at c zero (s ∷ pile) = cond (cuts_b c s) (some (halves c s ++ pile)) none
saw_at c (suc i) (s ∷ pile) = and_then (saw_at c i pile) (λ (p : List Size). some (s ∷ p))

-- and after a list of cuts
abbrev pub saw : List Cut → List Size → Option (List Size)
saw [] pile = some pile
saw (c ∷ cs) pile = and_then (saw_at c c.place pile) (saw cs)
