-- Why the amounts stand beside the list: on a sheet 3 x 1 with a blade of width 1, two sound trees have one list of 9 bytes a cut, and of it come
-- different pieces. In both a part 1 x 1 is cut off; behind it 1 was eaten and 1 x 1 is left, or nothing was eaten and 2 x 1 is left. (The second: a
-- part is booked, and another in the 1 that is left, which it fills; then the first is removed.)
use mathlib.Core.Path.{◌≡◌, refl}
use mathlib.Core.List.{[], ◌∷◌}
use Prim.Native.Nat.{ℕ, ◌+◌, ◌≤◌}
use native.Mathlib.Omega.{arith}
use Rattle.piece.specs.declared.orientation.Orientation.TheVariants.{Horizontal, Vertical}
use Rattle.piece.specs.declared.node.Datum.{Datum}
use Rattle.piece.specs.declared.node.Kind.TheVariants.{Free, Part, Structure}
use Rattle.piece.specs.declared.settings.Settings.{Settings}
use Rattle.piece.specs.Sides.{sized}
use Rattle.piece.specs.Row.{nil, grow}
use Rattle.tree.specs.Tree.{Tree}
use Rattle.tree.specs.Sound.{Sound}
use Rattle.tree.proofs.Numbered.{numbered-in, numbered-distinct}
use Rattle.tree.proofs.Pieces.{not_last, sided, free-piece, part-piece, structure-piece, child, top, sound}
use Rattle.saw.specs.Cuts.{row_cuts, cuts, boards, cut_bytes, bytes_of_cuts, amounts}

abbrev pub narrow : Settings
narrow = record { stages = 1; blade = 1; sheet = sized 3 1 }

abbrev top_piece : Datum
top_piece = record { serial = 1; size = sized 3 1; number = 0; level = 0; kind = Structure; cut = Vertical; eaten = 0 }

abbrev part_piece : ℕ → Datum
part_piece eaten = record { serial = 3; size = sized 1 1; number = 0; level = 1; kind = Part; cut = Horizontal; eaten = eaten }

abbrev free_piece : ℕ → Datum
free_piece width = record { serial = 4; size = sized width 1; number = 0; level = 1; kind = Free; cut = Horizontal; eaten = 0 }

-- the part with so much eaten behind it, and what is left
abbrev pub cut_once : (eaten left : ℕ) → Tree
cut_once eaten left = grow 0 top_piece (grow 1 (part_piece eaten) nil (grow 2 (free_piece left) nil nil)) nil

once-sound : (eaten left : ℕ) → eaten ≤ 1 → 1 + eaten + left ≡ 3 → Sound 255 narrow (cut_once eaten left)
once-sound eaten left h e =
    sound
    (record {
      wide = omega arith;
      tall = omega arith;
      width = omega arith;
      height = omega arith;
      least = omega arith;
      most = omega arith;
      blade = omega arith;
    }) (
      top refl refl refl refl refl refl (structure-piece (omega arith) (sided (omega arith) (omega arith)) (omega arith) refl),
      record {
        child = child refl (omega arith) refl refl h;
        kinded = part-piece refl (sided (omega arith) (omega arith)) (omega arith);
        ends = not_last;
        below = tt;
        beside =
            record {
              child = child refl (omega arith) refl refl (omega arith);
              kinded = free-piece refl refl refl;
              ends = λ z. refl;
              below = tt;
              beside = tt;
            };
      },
    )
    (omega arith)
    (λ i g. let z = numbered-in 0 i (cut_once eaten left) (refl, (refl, tt, (refl, tt, tt)), tt) g in omega arith)
    (numbered-distinct 0 (cut_once eaten left) (refl, (refl, tt, (refl, tt, tt)), tt))

-- the blade ate, or it didn't
abbrev pub with_eaten : Tree
with_eaten = cut_once 1 1

abbrev pub with_none : Tree
with_none = cut_once 0 2

pub both-sound : Sound 255 narrow with_eaten × Sound 255 narrow with_none
both-sound = (once-sound 1 1 (omega arith) refl, once-sound 0 2 (omega arith) refl)

pub one_list : bytes_of_cuts (cuts with_eaten) ≡ bytes_of_cuts (cuts with_none)
unfolding bytes_of_cuts cut_bytes row_cuts
one_list = refl

-- a place, Vertical, at distance 1, a part and a free piece
pub the-list : bytes_of_cuts (cuts with_eaten) ≡ 0 ∷ 0 ∷ 1 ∷ 0 ∷ 0 ∷ 0 ∷ 1 ∷ 1 ∷ 0 ∷ []
unfolding bytes_of_cuts cut_bytes row_cuts
the-list = refl

pub two-amounts : (amounts (cuts with_eaten) ≡ 1 ∷ []) × (amounts (cuts with_none) ≡ 0 ∷ [])
unfolding row_cuts
two-amounts = (refl, refl)

pub two-piles : (boards with_eaten ≡ sized 1 1 ∷ sized 1 1 ∷ []) × (boards with_none ≡ sized 1 1 ∷ sized 2 1 ∷ [])
two-piles = (refl, refl)

pub amounts-differ : amounts (cuts with_eaten) ≡ amounts (cuts with_none) → ⊥
unfolding row_cuts
amounts-differ e = let z : ◌≡◌ {A = ℕ} 1 0 = cc in omega arith

pub piles-differ : boards with_eaten ≡ boards with_none → ⊥
piles-differ e = let z : ◌≡◌ {A = ℕ} 1 2 = cc in omega arith
