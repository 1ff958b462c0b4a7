-- Sizes and cuts. Document 01 writes its tables for a Horizontal cut: "For Vertical exchange the two axes." `laid` is that sentence,
-- and no other definition speaks of an axis.
use Rattle.std.specs.Prelude.{Bool, true, false, ℕ, ◌*◌}
use Rattle.piece.specs.declared.orientation.Orientation.{Orientation}
use Rattle.piece.specs.declared.orientation.Orientation.TheVariants.{Horizontal, Vertical}
use Rattle.piece.specs.declared.size.Size.{Size}

-- the other cut
abbrev pub other : Orientation → Orientation
other Horizontal = Vertical
other Vertical = Horizontal

abbrev pub is_horizontal : Orientation → Bool
is_horizontal Horizontal = true
is_horizontal Vertical = false

abbrev pub sized : ℕ → ℕ → Size
sized w h = record { width = w; height = h }

abbrev pub exchanged : Size → Size
exchanged s = sized s.height s.width

-- a size as the tables write it, for a piece with this cut; and a size of the tables as it is
abbrev pub laid : Orientation → Size → Size
laid Horizontal s = s
laid Vertical s = exchanged s

abbrev pub area : Size → ℕ
area s = s.width * s.height
