-- docs/DESK.md, "What each op carries": what a line asks at the desk, and the line that asks it. Rests on the forms of `frames`.
use Rattle.std.specs.Prelude.{Bool, cond, ◌&&◌, List, [], ◌∷◌, ◌++◌, ℕ, eqb, leb}
use Rattle.frames.specs.declared.Request.TheVariants.{Malformed}
use Rattle.frames.specs.Bytes.{chars_of, framed}
use Rattle.frames.specs.Fields.{two_bytes, mark_fields, part_fields, a_mark, a_part, mark_nos, part_nos}
use Rattle.frames.specs.Requests.{Form, bare_form, form_length, read_by, op_in, line_asks, request_of, carried, carried_by}
use Rattle.desk_frames.specs.declared.Question.{Question}
use Rattle.desk_frames.specs.declared.Question.TheVariants.{WhyNot, RoomLight, FreePiece, RemovablePiece, PartNumbers, Figures, Snapshot, Cuts, EatenArea, Amounts}
use Rattle.desk_frames.specs.declared.DeskRequest.{DeskRequest}
use Rattle.desk_frames.specs.declared.DeskRequest.TheVariants.{Asks, Tidy, AtCounter}

-- the ops of the desk's own, 11 to 1b in hexadecimal
abbrev pub is_own : ℕ → Bool
is_own op = leb 17 op && leb op 27

-- what is malformed at the desk is malformed at the counter
abbrev pub malformed_line : DeskRequest
malformed_line = AtCounter Malformed

-- ---- the table "op | carries": the fields of each op, and the question that their numbers make
abbrev pub why_not_form : Form DeskRequest
why_not_form = record { fields = mark_fields ++ part_fields; asks = λ l p s n w h t. Asks (WhyNot (a_mark l p s) (a_part n w h t)) }

abbrev pub light_form : Form DeskRequest
light_form = record { fields = part_fields; asks = λ n w h t. Asks (RoomLight (a_part n w h t)) }

abbrev pub position_form : (ℕ → Question) → Form DeskRequest
position_form q = record { fields = two_bytes ∷ []; asks = λ k. Asks (q k) }

-- the ops that carry nothing; one that is not listed asks nothing
abbrev pub bare_question : ℕ → DeskRequest
bare_question op =
    cond (eqb op 21) (Asks PartNumbers)
    (cond (eqb op 22) (Asks Figures)
    (cond (eqb op 23) (Asks Snapshot)
    (cond (eqb op 24) (Asks Cuts)
    (cond (eqb op 25) (Asks EatenArea)
    (cond (eqb op 26) (Asks Amounts)
    (cond (eqb op 27) Tidy
    malformed_line))))))

unfoldable pub question_form : ℕ → Form DeskRequest
question_form op =
    cond (eqb op 17) why_not_form
    (cond (eqb op 18) light_form
    (cond (eqb op 19) (position_form FreePiece)
    (cond (eqb op 20) (position_form RemovablePiece)
    (bare_form (bare_question op)))))

-- ---- what follows from it
unfoldable pub desk_length_of : ℕ → ℕ
desk_length_of op = form_length (question_form op)

unfoldable pub read_why_not : List ℕ → DeskRequest
read_why_not b = read_by malformed_line why_not_form b

unfoldable pub read_light : List ℕ → DeskRequest
read_light b = read_by malformed_line light_form b

unfoldable pub desk_asked_by : ℕ → List ℕ → DeskRequest
desk_asked_by op b = read_by malformed_line (question_form op) b

-- an op of the desk's own asks a question, or to tidy; every other line asks what it asks at the counter
unfoldable pub desk_request_of : List ℕ → DeskRequest
desk_request_of line = cond (is_own (op_in line)) (line_asks malformed_line question_form line) (AtCounter (request_of line))

-- the op and what each request carries; and its line, with the check
unfoldable pub desk_carried_by : DeskRequest → List ℕ
desk_carried_by (Asks (WhyNot mark part)) = carried 17 why_not_form (mark_nos mark ++ part_nos part)
desk_carried_by (Asks (RoomLight part)) = carried 18 light_form (part_nos part)
desk_carried_by (Asks (FreePiece position)) = carried 19 (position_form FreePiece) (position ∷ [])
desk_carried_by (Asks (RemovablePiece position)) = carried 20 (position_form RemovablePiece) (position ∷ [])
desk_carried_by (Asks PartNumbers) = carried 21 (bare_form (Asks PartNumbers)) []
desk_carried_by (Asks Figures) = carried 22 (bare_form (Asks Figures)) []
desk_carried_by (Asks Snapshot) = carried 23 (bare_form (Asks Snapshot)) []
desk_carried_by (Asks Cuts) = carried 24 (bare_form (Asks Cuts)) []
desk_carried_by (Asks EatenArea) = carried 25 (bare_form (Asks EatenArea)) []
desk_carried_by (Asks Amounts) = carried 26 (bare_form (Asks Amounts)) []
desk_carried_by Tidy = carried 27 (bare_form Tidy) []
desk_carried_by (AtCounter q) = carried_by q

abbrev pub desk_frame_of : DeskRequest → List ℕ
desk_frame_of q = chars_of (framed (desk_carried_by q))
