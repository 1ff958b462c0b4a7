-- Document 01, "Counter frames": what a line asks, and the line that asks it. Rests on Bytes and Fields.
use Rattle.std.specs.Prelude.{ℕ, ◌+◌, ◌%◌, Bool, cond, ◌&&◌, List, [], ◌∷◌, ◌++◌, length, ◌==◌, nat_le, slice_index}
use Rattle.frames.specs.declared.Ask.TheVariants.{Open, Offers, Insert, Remove, Report}
use Rattle.piece.specs.Numbers.{rotation_no, shape_no, rotation_of, shape_of}
use Rattle.frames.specs.declared.Request.{Request}
use Rattle.frames.specs.declared.Request.TheVariants.{OfLayout, Keep, Restore, Malformed}
use Rattle.frames.specs.Bytes.{pairs, all_bytes, chars_of, total, framed}
use Rattle.frames.specs.Fields.{Field, byte, two_bytes, four_bytes, cut_byte, rotation_byte, shape_byte, mark_fields, part_fields, widths, values, all_listed, written, Taking, applied_to, an_opening, a_mark, a_part, opening_nos, mark_nos, part_nos}

-- ---- the table "op | carries" (to op 01 document 02, No. 4, adds the blade's width at the end): the fields of each op, said once, and the request that their numbers make; A is what can be asked
pub record Form (A : Type 0) : Type 0 where
  pub fields : List Field
  pub asks : Taking A fields

abbrev pub open_form : Form Request
open_form =
    record {
      fields = two_bytes ∷ four_bytes ∷ four_bytes ∷ cut_byte ∷ byte ∷ byte ∷ [];
      asks = λ n w h c t b. OfLayout (Open (an_opening n w h c t b));
    }

abbrev pub offers_form : Form Request
offers_form = record { fields = mark_fields ++ part_fields; asks = λ l p s n w h t. OfLayout (Offers (a_mark l p s) (a_part n w h t)) }

abbrev pub insert_form : Form Request
insert_form =
    record {
      fields = mark_fields ++ (part_fields ++ (rotation_byte ∷ shape_byte ∷ []));
      asks = λ l p s n w h t r k. OfLayout (Insert (a_mark l p s) (a_part n w h t) (rotation_of r) (shape_of k));
    }

abbrev pub remove_form : Form Request
remove_form = record { fields = mark_fields; asks = λ l p s. OfLayout (Remove (a_mark l p s)) }

-- the ops that carry nothing; one that is not listed asks nothing
abbrev pub bare_of : ℕ → Request
bare_of op = cond (op == 5) Keep (cond (op == 6) Restore (cond (op == 7) (OfLayout Report) Malformed))

abbrev pub bare_form : {A : Type 0} → A → Form A
bare_form q = record { fields = []; asks = q }

unfoldable pub form_of : ℕ → Form Request
form_of op =
    cond (op == 1) open_form (cond (op == 2) offers_form (cond (op == 3) insert_form (cond (op == 4) remove_form (bare_form (bare_of op)))))

-- ---- what follows from a form. The bytes of a frame, op and check among them
abbrev pub form_length : {A : Type 0} → Form A → ℕ
form_length f = 2 + widths f.fields

-- what numbers ask, and what bytes ask, byte 0 being the op; where a number is not listed, they ask what is bad
abbrev pub made_by : {A : Type 0} → A → Form A → List ℕ → A
made_by bad f vs = cond (all_listed f.fields vs) (applied_to f.fields f.asks vs) bad

abbrev pub read_by : {A : Type 0} → A → Form A → List ℕ → A
read_by bad f b = made_by bad f (values f.fields b 1)

-- ---- a line: "at most 64 characters"; "lower-case hexadecimal", two characters a byte; "the bytes of a frame add to 0"
unfoldable pub is_frame : List ℕ → Bool
is_frame line =
    nat_le (length line) 64
    && (length line % 2 == 0
    && (all_bytes (pairs line)
    && total (pairs line) % 256 == 0))

abbrev pub op_in : List ℕ → ℕ
op_in line = slice_index (pairs line) 0

-- the line is a frame, and has the length of its op
abbrev pub fits_forms : {A : Type 0} → (ℕ → Form A) → List ℕ → Bool
fits_forms forms line = is_frame line && length (pairs line) == form_length (forms (op_in line))

-- what a line asks by a table of forms; what is bad, where it is malformed
abbrev pub line_asks : {A : Type 0} → A → (ℕ → Form A) → List ℕ → A
line_asks bad forms line = cond (fits_forms forms line) (read_by bad (forms (op_in line)) (pairs line)) bad

-- ---- the counter's
unfoldable pub length_of : ℕ → ℕ
length_of op = form_length (form_of op)

abbrev pub request_made : Form Request → List ℕ → Request
request_made f vs = made_by Malformed f vs

abbrev pub read_as : Form Request → List ℕ → Request
read_as f b = read_by Malformed f b

unfoldable pub read_open : List ℕ → Request
read_open b = read_as open_form b

unfoldable pub read_offers : List ℕ → Request
read_offers b = read_as offers_form b

unfoldable pub read_insert : List ℕ → Request
read_insert b = read_as insert_form b

unfoldable pub read_remove : List ℕ → Request
read_remove b = read_as remove_form b

unfoldable pub asked_by : ℕ → List ℕ → Request
asked_by op b = read_as (form_of op) b

-- "Anything malformed (length, character, check, an op, cut, turn, rotation or shape not listed)"
unfoldable pub request_of : List ℕ → Request
request_of line = line_asks Malformed form_of line

-- the op and what each request carries; and its line, with the check. Malformed has none, and no bytes but a check ask nothing.
abbrev pub carried : {A : Type 0} → ℕ → Form A → List ℕ → List ℕ
carried op f vs = op ∷ written f.fields vs

unfoldable pub carried_by : Request → List ℕ
carried_by (OfLayout (Open opening)) = carried 1 open_form (opening_nos opening)
carried_by (OfLayout (Offers mark part)) = carried 2 offers_form (mark_nos mark ++ part_nos part)
carried_by (OfLayout (Insert mark part rotation shape)) =
    carried 3 insert_form (mark_nos mark ++ (part_nos part ++ (rotation_no rotation ∷ shape_no shape ∷ [])))
carried_by (OfLayout (Remove mark)) = carried 4 remove_form (mark_nos mark)
carried_by (OfLayout Report) = carried 7 (bare_form (OfLayout Report)) []
carried_by Keep = carried 5 (bare_form Keep) []
carried_by Restore = carried 6 (bare_form Restore) []
carried_by Malformed = []

abbrev pub frame_of : Request → List ℕ
frame_of q = chars_of (framed (carried_by q))
