-- A row of sibling pieces, the one form in which blocks and trees are written: each piece has a place, is what its datum says, has its
-- children, and is followed by its later siblings.
use Rattle.std.specs.Prelude.{ℕ}

pub data Row (A : Type 0) : Type 0 where
  nil : Row A
  grow : (p : ℕ) (d : A) (kids rest : Row A) → Row A
