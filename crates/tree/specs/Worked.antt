-- Document 01, "Sheet 100 x 60, first cut Vertical": what the definitions give in the cases a to k, and what the paper says, as one table. The parts
-- are in rotation Default.
use Rattle.std.specs.Prelude.{List, [], ◌∷◌, map, cond, ℕ, zero, suc, eqb, Some, Float}
use Rattle.piece.specs.declared.orientation.Orientation.{Orientation}
use Rattle.piece.specs.declared.orientation.Orientation.TheVariants.{Horizontal, Vertical}
use Rattle.piece.specs.declared.rotation.Rotation.TheVariants.{Default}
use Rattle.piece.specs.declared.parttype.PartType.{PartType}
use Rattle.piece.specs.declared.settings.Opening.{Opening}
use Rattle.piece.specs.declared.node.Kind.{Kind}
use Rattle.piece.specs.declared.node.Kind.TheVariants.{Free, Part, Structure}
use Rattle.piece.specs.declared.insertion_blueprint.InsertionShape.{InsertionShape}
use Rattle.piece.specs.declared.insertion_blueprint.InsertionShape.TheVariants.{AlongCurrentCut, AcrossCurrentCut, AlongThenAcross, AcrossThenAlong}
use Rattle.piece.specs.declared.insertion_option.Offer.{Offer}
use Rattle.piece.specs.Sides.{sized, area}
use Rattle.piece.specs.Row.{nil, grow}
use Rattle.piece.specs.Kinds.{is_part}
use Rattle.piece.specs.Offers.{offer, offers_of}
use Rattle.lists.specs.Lists.{limit}
use Rattle.tree.specs.Tree.{Tree}
use Rattle.tree.specs.Open.{opened, first_free}
use Rattle.tree.specs.Snapshot.{shape}
use Rattle.tree.specs.Booking.{Booking, book}
use Rattle.tree.specs.Removal.{remove}
use Rattle.tree.specs.Figures.{part_area, sheet_usage, one}
use Rattle.tree.specs.Steps.{less}
use Rattle.tree.specs.Family.{new_place}
use Rattle.tree.specs.Enrolment.{booked_list}

-- the pieces of a removable list, as the paper calls them; a free piece is none of them
pub data Called : Type 0 where
  top : Called
  part : Called
  structure : Called
  no_such : Called

-- what a case asks for: the offers, the removable list, the tree without its marks, or the sheet's usage
pub data CaseAnswer : Type 0 where
  offered : List Offer → CaseAnswer
  listed : List Called → CaseAnswer
  stands : Tree → CaseAnswer
  used : Float → CaseAnswer

abbrev pub opening : ℕ → Opening
opening stages = record { number = 1; settings = record { stages = stages; blade = 0; sheet = sized 100 60 }; cut = Vertical }

abbrev pub opening_tree : Tree
opening_tree = opened (opening 3)

-- the part, number 7, w x h
abbrev pub wanted_part : ℕ → ℕ → PartType
wanted_part w h = record { number = 7; size = sized w h; fixed_rotation = Some Default }

abbrev pub offers : ℕ → ℕ → ℕ → CaseAnswer
offers w h stages = offered (offers_of (first_free (opening stages)) (wanted_part w h) (opening stages).settings)

-- the part booked by a blade of this width, in the free piece at place x of this tree, with this serial to come
abbrev pub booking_by : (blade x serial : ℕ) → Tree → InsertionShape → ℕ → ℕ → Booking
booking_by blade x serial t s w h =
    record { shape = s; size = sized w h; number = 7; blade = blade; place = new_place limit (less x t); serial = serial }

abbrev pub booked_by : (blade x serial : ℕ) → Tree → InsertionShape → ℕ → ℕ → Tree
booked_by blade x serial t s w h = book x (booking_by blade x serial t s w h) t

-- in the opening's free piece, which is at place 1, with a blade of no width; the opening issued the serials 1 and 2
abbrev pub booking : InsertionShape → ℕ → ℕ → Booking
booking s w h = booking_by 0 1 3 opening_tree s w h

abbrev pub booked_tree : InsertionShape → ℕ → ℕ → Tree
booked_tree s w h = booked_by 0 1 3 opening_tree s w h

abbrev pub usage : Tree → CaseAnswer
usage t = used (sheet_usage (part_area t) (area (opening 3).settings.sheet))

-- what the piece at a place is called
abbrev pub called_by : Kind → ℕ → Called
called_by Free level = no_such
called_by Part level = part
called_by Structure zero = top
called_by Structure (suc level) = structure

abbrev pub called_at : Tree → Called → ℕ → Called
called_at nil otherwise p = otherwise
called_at (grow q d k r) otherwise p = cond (eqb p q) (called_by d.kind d.level) (called_at k (called_at r otherwise p) p)

-- the removable list then; at the opening it holds the top alone, at place 0
abbrev pub removable : InsertionShape → ℕ → ℕ → CaseAnswer
removable s w h =
    listed (map (called_at (booked_tree s w h) no_such) (booked_list limit 1 (first_free (opening 3)) (booking s w h) opening_tree (0 ∷ [])))

unfoldable pub computed : List CaseAnswer
computed =
    offers 40 60 3
    ∷ removable AlongCurrentCut 40 60
    ∷ offers 40 30 3
    ∷ offers 40 30 2
    ∷ offers 40 30 1
    ∷ offers 100 20 2
    ∷ offers 100 20 1
    ∷ stands (shape (booked_tree AlongCurrentCut 100 60))
    ∷ usage (booked_tree AlongCurrentCut 100 60)
    ∷ offers 101 60 3
    ∷ stands (shape (booked_tree AlongThenAcross 40 30))
    ∷ removable AlongThenAcross 40 30
    ∷ stands (shape (remove 1 1 5 (booked_tree AlongCurrentCut 40 60)))
    ∷ stands (shape (remove 2 2 6 (booked_tree AcrossCurrentCut 100 20)))
    ∷ []

-- the paper's side of the table

abbrev pub only_shape : InsertionShape → CaseAnswer
only_shape s = offered (offer Default s ∷ [])

-- a piece of the tree without its marks, with this much eaten behind it, and with nothing
abbrev pub cut_bit : Kind → ℕ → Orientation → ℕ → ℕ → ℕ → Tree → Tree → Tree
cut_bit kind level c w h eaten k r =
    grow 0
    (record { serial = 0; size = sized w h; number = cond (is_part kind) 7 0; level = level; kind = kind; cut = c; eaten = eaten }) k r

abbrev pub bit : Kind → ℕ → Orientation → ℕ → ℕ → Tree → Tree → Tree
bit kind level c w h k r = cut_bit kind level c w h 0 k r

abbrev pub top_over : Tree → CaseAnswer
top_over k = stands (bit Structure 0 Vertical 100 60 k nil)

unfoldable pub paper : List CaseAnswer
paper =
    -- a. 40 x 60: AlongCurrentCut; removable list part, top
    only_shape AlongCurrentCut
    ∷ listed (part ∷ top ∷ [])
    -- b. 40 x 30: both two-step shapes
    ∷ offered (offer Default AlongThenAcross ∷ offer Default AcrossThenAlong ∷ [])
    -- c. the same, stages 2: AlongThenAcross only
    ∷ only_shape AlongThenAcross
    -- d. the same, stages 1: none
    ∷ offered []
    -- e. 100 x 20, stages 2: AcrossCurrentCut
    ∷ only_shape AcrossCurrentCut
    -- f. the same, stages 1: none
    ∷ offered []
    -- g. 100 x 60: free piece 0 x 60, usage 1
    ∷ top_over (bit Part 1 Horizontal 100 60 nil (bit Free 1 Horizontal 0 60 nil nil))
    ∷ used one
    -- h. 101 x 60: none
    ∷ offered []
    -- i. b by AlongThenAcross: removable list top, part, structure
    ∷ top_over
    (bit Structure 1 Horizontal 40 60 (bit Part 2 Vertical 40 30 nil (bit Free 2 Vertical 40 30 nil nil))
    (bit Free 1 Horizontal 60 60 nil nil))
    ∷ listed (top ∷ part ∷ structure ∷ [])
    -- j. a, then the part removed: the opening tree
    ∷ stands (shape opening_tree)
    -- k. e, then the part removed: structure with one free 100 x 60 child at level 2
    ∷ top_over (bit Structure 1 Horizontal 100 60 (bit Free 2 Vertical 100 60 nil nil) nil)
    ∷ []
