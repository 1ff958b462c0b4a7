-- Document 02, No. 10: "a list of bookings and removals .. gives the same tree in every order in which every call is accepted". Here is what is done at a piece
-- of a tree, a booking or a removal, and the tree in which all of a list is done at once, each deed where its piece stands. In that tree no deed comes before
-- another, so a list with one deed to a place has one such tree in all its orders; proofs/Laws/AtOnce.antt says that one deed after the other comes to it.
use Rattle.std.specs.Prelude.{◌≡◌, false, cond, List, [], ◌∷◌, ℕ, eqb}
use Rattle.std.proofs.Math.Option.{Option, none, some}
use Rattle.piece.specs.declared.node.Datum.{Datum}
use Rattle.piece.specs.declared.node.Kind.TheVariants.{Free}
use Rattle.piece.specs.Row.{nil, grow}
use Rattle.piece.specs.Kinds.{is_free}
use Rattle.tree.specs.Tree.{Tree, At, change, rest}
use Rattle.tree.specs.Booking.{Booking, booked_row}
use Rattle.tree.specs.Removal.{settled, left}
use Rattle.tree.specs.Apart.{Alike, Clear}

-- a part is booked in the piece; or the piece is taken out, and the new free piece gets this place and this serial
pub data Deed : Type 0 where
  books : Booking → Deed
  takes : ℕ → ℕ → Deed

-- what comes in the place of the piece, by what it is and its later siblings
abbrev pub does : Deed → Datum → Tree → Tree
does (books b) = booked_row b
does (takes n s) = settled n s

-- what of its later siblings it leaves as they are: all of them, or all but a free piece at the end; and so of the tree, of a deed at x
abbrev pub left_in : Deed → Datum → Tree → Tree
left_in (books b) = rest
left_in (takes n s) = left

abbrev pub leaves : Deed → ℕ → Tree → Tree
leaves f x t = change x (left_in f) t

-- a part is booked in a free piece; "Removal is of a part or a structure, never of the top or a free piece", and the top is at place 0
abbrev pub Suits : Deed → ℕ → Datum → Type 0
Suits (books b) x d = d.kind ≡ Free
Suits (takes n s) x d = (is_free d.kind ≡ false) × (x ≡ 0 → ⊥)

-- no new node gets the place y
abbrev pub Spares : ℕ → Deed → Type 0
Spares y (books b) = Clear y b
Spares y (takes n s) = y ≡ n → ⊥

-- the same deed but for the marks of what is new
abbrev pub AlikeDeed : Deed → Deed → Type 0
AlikeDeed (books b) (books c) = Alike b c
AlikeDeed (books b) (takes n s) = ⊥
AlikeDeed (takes n s) (books c) = ⊥
AlikeDeed (takes n s) (takes m u) = Unit {0}

-- a deed at a place
pub record Task : Type 0 where
  pub place : ℕ
  pub deed : Deed

-- what a list has for the place x
abbrev pub deed_at : ℕ → List Task → Option Deed
deed_at x [] = none
deed_at x (a ∷ ts) = cond (eqb a.place x) (some a.deed) (deed_at x ts)

-- each deed of the list suits the piece that stands at its place
abbrev pub Suited : List Task → Tree → Type 0
Suited ts w = (y : ℕ) (g : Deed) (e : Datum) → deed_at y ts ≡ some g → At y e w → Suits g y e

-- the new nodes of f come to no place for which the list has a deed
abbrev pub Spared : Deed → List Task → Type 0
Spared f ts = (y : ℕ) (g : Deed) → deed_at y ts ≡ some g → Spares y f

-- the piece d at p, with its children k and its later siblings r, and what is to be done there
abbrev pub put : Option Deed → ℕ → Datum → Tree → Tree → Tree
put none p d k r = grow p d k r
put (some f) p d k r = does f d r

-- all of the list is done at once
abbrev pub at_once : List Task → Tree → Tree
at_once ts nil = nil
at_once ts (grow p d k r) = put (deed_at p ts) p d (at_once ts k) (at_once ts r)
