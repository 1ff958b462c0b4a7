-- Document 01, "Counter frames": the fields of a frame, as bytes and back. Rests on Bytes.
use Rattle.std.specs.Prelude.{ℕ, ◌+◌, ◌%◌, Bool, true, ◌&&◌, List, [], ◌∷◌, ◌++◌, slice_index}
use Rattle.piece.specs.declared.parttype.PartType.{PartType}
use Rattle.piece.specs.declared.settings.Opening.{Opening}
use Rattle.piece.specs.declared.size.Size.{Size}
use Rattle.piece.specs.Numbers.{cut_listed, turn_listed, rotation_listed, shape_listed, cut_no, turn_no, cut_of, turn_of}
use Rattle.marks.specs.declared.Mark.{Mark}
use Rattle.frames.specs.Bytes.{two, four, two_at, four_at}

-- ---- a field: how many bytes it has, and which of their numbers are listed
pub data Width : Type 0 where
  single : Width
  double : Width
  quad : Width

pub record Field : Type 0 where
  pub width : Width
  pub listed : ℕ → Bool

abbrev pub byte : Field
byte = record { width = single; listed = λ n. true }

abbrev pub two_bytes : Field
two_bytes = record { width = double; listed = λ n. true }

abbrev pub four_bytes : Field
four_bytes = record { width = quad; listed = λ n. true }

abbrev pub cut_byte : Field
cut_byte = record { width = single; listed = cut_listed }

abbrev pub turn_byte : Field
turn_byte = record { width = single; listed = turn_listed }

abbrev pub rotation_byte : Field
rotation_byte = record { width = single; listed = rotation_listed }

abbrev pub shape_byte : Field
shape_byte = record { width = single; listed = shape_listed }

-- "A mark is 7 bytes (layout 2, place 1, serial 4), a part 11 (number 2, width 4, height 4, turn 1)"
abbrev pub mark_fields : List Field
mark_fields = two_bytes ∷ byte ∷ four_bytes ∷ []

abbrev pub part_fields : List Field
part_fields = two_bytes ∷ four_bytes ∷ four_bytes ∷ turn_byte ∷ []

-- ---- what follows from a list of fields: its bytes, the numbers that stand there from the i-th byte on, whether all are listed, and numbers as bytes
abbrev pub size_of : Width → ℕ
size_of single = 1
size_of double = 2
size_of quad = 4

abbrev pub widths : List Field → ℕ
widths [] = 0
widths (f ∷ fs) = size_of f.width + widths fs

abbrev pub value_at : Width → List ℕ → ℕ → ℕ
value_at single b i = slice_index b i
value_at double b i = two_at b i
value_at quad b i = four_at b i

abbrev pub values : List Field → List ℕ → ℕ → List ℕ
values [] b i = []
values (f ∷ fs) b i = value_at f.width b i ∷ values fs b (i + size_of f.width)

abbrev pub all_listed : List Field → List ℕ → Bool
all_listed [] vs = true
all_listed (f ∷ fs) [] = true
all_listed (f ∷ fs) (v ∷ vs) = f.listed v && all_listed fs vs

-- a byte's low part is written
abbrev pub field_bytes : Width → ℕ → List ℕ
field_bytes single n = (n % 256) ∷ []
field_bytes double n = two n
field_bytes quad n = four n

abbrev pub written : List Field → List ℕ → List ℕ
written [] vs = []
written (f ∷ fs) [] = []
written (f ∷ fs) (v ∷ vs) = field_bytes f.width v ++ written fs vs

-- what takes the numbers of the fields, one after another; and what it makes of them
abbrev pub Taking : Type 0 → List Field → Type 0
Taking A [] = A
Taking A (f ∷ fs) = ℕ → Taking A fs

abbrev pub applied_to : {A : Type 0} (fs : List Field) → Taking A fs → List ℕ → A
applied_to [] a vs = a
applied_to (f ∷ fs) k [] = applied_to fs (k 0) []
applied_to (f ∷ fs) k (v ∷ vs) = applied_to fs (k v) vs

-- ---- a size, an opening, a mark and a part, from their numbers and back
abbrev pub a_size : ℕ → ℕ → Size
a_size w h = record { width = w; height = h }

abbrev pub an_opening : ℕ → ℕ → ℕ → ℕ → ℕ → ℕ → Opening
an_opening n w h c t b = record { number = n; settings = record { stages = t; blade = b; sheet = a_size w h }; cut = cut_of c }

abbrev pub a_mark : ℕ → ℕ → ℕ → Mark
a_mark layout place serial = record { layout = layout; place = place; serial = serial }

abbrev pub a_part : ℕ → ℕ → ℕ → ℕ → PartType
a_part n w h t = record { number = n; size = a_size w h; fixed_rotation = turn_of t }

abbrev pub opening_nos : Opening → List ℕ
opening_nos o = o.number ∷ o.settings.sheet.width ∷ o.settings.sheet.height ∷ cut_no o.cut ∷ o.settings.stages ∷ o.settings.blade ∷ []

abbrev pub mark_nos : Mark → List ℕ
mark_nos m = m.layout ∷ m.place ∷ m.serial ∷ []

abbrev pub part_nos : PartType → List ℕ
part_nos p = p.number ∷ p.size.width ∷ p.size.height ∷ turn_no p.fixed_rotation ∷ []

abbrev pub mark_bytes : Mark → List ℕ
mark_bytes m = written mark_fields (mark_nos m)

-- what stands from the i-th byte on
abbrev pub size_at : List ℕ → ℕ → Size
size_at b i = applied_to (four_bytes ∷ four_bytes ∷ []) a_size (values (four_bytes ∷ four_bytes ∷ []) b i)

abbrev pub mark_at : List ℕ → ℕ → Mark
mark_at b i = applied_to mark_fields a_mark (values mark_fields b i)

abbrev pub part_at : List ℕ → ℕ → PartType
part_at b i = applied_to part_fields a_part (values part_fields b i)
