-- Change request 3 (document 02): what the bytes of a list of cuts say, "9 bytes each". Fewer than nine at the end say nothing. What the cuts lose is
-- said beside them (change request 4).
use Rattle.std.specs.Prelude.{List, [], ◌∷◌, ℕ, zero, suc, ◌+◌, ◌*◌, ◌<◌}
use Rattle.piece.specs.declared.orientation.Orientation.{Orientation}
use Rattle.piece.specs.declared.orientation.Orientation.TheVariants.{Horizontal, Vertical}
use Rattle.saw.specs.declared.cut.Cut.{Cut}

-- "cut (0 Horizontal, 1 Vertical)"
abbrev pub way_of : ℕ → Orientation
way_of zero = Horizontal
way_of (suc n) = Vertical

-- two and four bytes, highest first
abbrev pub of_two : (a b : ℕ) → ℕ
of_two a b = a * 256 + b

abbrev pub of_four : (a b c d : ℕ) → ℕ
of_four a b c d = of_two a b * 65536 + of_two c d

unfoldable pub read_cuts : List ℕ → List Cut
read_cuts [] = []
read_cuts (a ∷ []) = []
read_cuts (a ∷ b ∷ []) = []
read_cuts (a ∷ b ∷ w ∷ []) = []
read_cuts (a ∷ b ∷ w ∷ c ∷ []) = []
read_cuts (a ∷ b ∷ w ∷ c ∷ d ∷ []) = []
read_cuts (a ∷ b ∷ w ∷ c ∷ d ∷ e ∷ []) = []
read_cuts (a ∷ b ∷ w ∷ c ∷ d ∷ e ∷ f ∷ []) = []
read_cuts (a ∷ b ∷ w ∷ c ∷ d ∷ e ∷ f ∷ p ∷ []) = []
read_cuts (a ∷ b ∷ w ∷ c ∷ d ∷ e ∷ f ∷ p ∷ l ∷ r) =
    record { place = of_two a b; way = way_of w; distance = of_four c d e f; piece = p; remainder = l; eaten = 0 } ∷ read_cuts r

-- the cuts with the amounts that were recorded beside them, as far as there are some
abbrev pub losing : List Cut → List ℕ → List Cut
losing [] amounts = []
losing (c ∷ cs) [] = []
losing (c ∷ cs) (a ∷ amounts) =
    record {
      place = c.place;
      way = c.way;
      distance = c.distance;
      piece = c.piece;
      remainder = c.remainder;
      eaten = a;
    }
    ∷ losing cs amounts

-- the bytes hold the numbers of a cut
pub record Fits (c : Cut) : Type 0 where
  pub place : c.place < 65536
  pub distance : c.distance < 4294967296

abbrev pub EachOf : {A : Type 0} → (A → Type 0) → List A → Type 0
EachOf P [] = Unit {0}
EachOf P (x ∷ l) = P x × EachOf P l
