-- The numbers that document 01's bytes have for a kind, a cut, a turn, a rotation and a shape: "kind (0 free, 1 part, 2 structure), cut (0
-- Horizontal, 1 Vertical)" ("Tree snapshot"), "turn 1: 0 either, 1 Default, 2 Rotated" and "Rotation is 0 or 1; shape 1..4 in the table's order"
-- ("Counter frames").
use Rattle.std.specs.Prelude.{Bool, cond, ◌&&◌, ℕ, eqb, leb, Option, Some, None, Result, Ok, Err}
use Rattle.piece.specs.declared.orientation.Orientation.{Orientation}
use Rattle.piece.specs.declared.orientation.Orientation.TheVariants.{Horizontal, Vertical}
use Rattle.piece.specs.declared.rotation.Rotation.{Rotation}
use Rattle.piece.specs.declared.rotation.Rotation.TheVariants.{Default, Rotated}
use Rattle.piece.specs.declared.node.Kind.{Kind}
use Rattle.piece.specs.declared.node.Kind.TheVariants.{Free, Part, Structure}
use Rattle.piece.specs.declared.unlisted.Unlisted.{Unlisted}
use Rattle.piece.specs.declared.insertion_blueprint.InsertionShape.{InsertionShape}
use Rattle.piece.specs.declared.insertion_blueprint.InsertionShape.TheVariants.{AlongCurrentCut, AcrossCurrentCut, AlongThenAcross, AcrossThenAlong}

-- ---- the number of each
abbrev pub kind_no : Kind → ℕ
kind_no Free = 0
kind_no Part = 1
kind_no Structure = 2

abbrev pub cut_no : Orientation → ℕ
cut_no Horizontal = 0
cut_no Vertical = 1

abbrev pub turn_no : Option Rotation → ℕ
turn_no None = 0
turn_no (Some Default) = 1
turn_no (Some Rotated) = 2

abbrev pub rotation_no : Rotation → ℕ
rotation_no Default = 0
rotation_no Rotated = 1

abbrev pub shape_no : InsertionShape → ℕ
shape_no AlongCurrentCut = 1
shape_no AcrossCurrentCut = 2
shape_no AlongThenAcross = 3
shape_no AcrossThenAlong = 4

-- ---- whether a number is listed
abbrev pub kind_listed : ℕ → Bool
kind_listed n = leb n 2

abbrev pub cut_listed : ℕ → Bool
cut_listed n = leb n 1

abbrev pub turn_listed : ℕ → Bool
turn_listed n = leb n 2

abbrev pub rotation_listed : ℕ → Bool
rotation_listed n = leb n 1

abbrev pub shape_listed : ℕ → Bool
shape_listed n = leb 1 n && leb n 4

-- ---- what a listed number says
abbrev pub kind_of : ℕ → Kind
kind_of n = cond (eqb n 0) Free (cond (eqb n 1) Part Structure)

abbrev pub cut_of : ℕ → Orientation
cut_of n = cond (eqb n 0) Horizontal Vertical

abbrev pub turn_of : ℕ → Option Rotation
turn_of n = cond (eqb n 0) None (cond (eqb n 1) (Some Default) (Some Rotated))

abbrev pub rotation_of : ℕ → Rotation
rotation_of n = cond (eqb n 0) Default Rotated

abbrev pub shape_of : ℕ → InsertionShape
shape_of n =
    cond (eqb n 1) AlongCurrentCut
    (cond (eqb n 2) AcrossCurrentCut (cond (eqb n 3) AlongThenAcross AcrossThenAlong))

-- ---- what a number says, if it is listed
abbrev pub if_listed : {A : Type 0} → Bool → A → Result A Unlisted
if_listed listed a = cond listed (Ok a) (Err (record {}))

abbrev pub listed_kind : ℕ → Result Kind Unlisted
listed_kind n = if_listed (kind_listed n) (kind_of n)

abbrev pub listed_cut : ℕ → Result Orientation Unlisted
listed_cut n = if_listed (cut_listed n) (cut_of n)

abbrev pub listed_rotation : ℕ → Result Rotation Unlisted
listed_rotation n = if_listed (rotation_listed n) (rotation_of n)

abbrev pub listed_shape : ℕ → Result InsertionShape Unlisted
listed_shape n = if_listed (shape_listed n) (shape_of n)
