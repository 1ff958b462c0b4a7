-- docs/DESK.md, "What is answered": what each question finds in a layout, and what tidying gives, as the bytes behind the op and 00, or the refusal. The rules
-- are those of the calls that the ops are for (`questions`, `saw`, `layout`).
use Rattle.std.specs.Prelude.{Bool, cond, List, [], ◌∷◌, ◌++◌, ℕ, length, Result, Ok, Err, Some, None, ⊤, Option}
use Rattle.std.specs.Float.{binary64}
use Rattle.std.specs.Float.Ieee.{to_bits}
use Rattle.piece.specs.Sides.{area}
use Rattle.tree.specs.Tree.{count}
use Rattle.tree.specs.Figures.{part_area, free_area, sheet_usage, tree_usage}
use Rattle.marks.specs.Marks.{zero_mark}
use Rattle.marks.specs.declared.Refusal.{Refusal}
use Rattle.marks.specs.declared.Refusal.TheVariants.{NotSound}
use Rattle.marks.specs.Refusals.{refusal_no}
use Rattle.layout.specs.declared.layout.Layout.{Layout}
use Rattle.marks.specs.declared.Mark.{Mark}
use Rattle.layout.specs.Check.{tree, sound_b}
use Rattle.questions.specs.declared.why_not.Reasons.{Reasons}
use Rattle.questions.specs.Answers.{all_free, eaten_area_of, free_mark_of, removable_mark_of}
use Rattle.questions.specs.Light.{light_of}
use Rattle.questions.specs.Reasons.{reason_no}
use Rattle.questions.specs.WhyNot.{why_call}
use Rattle.questions.specs.Written.{snapshot_bytes, held_numbers}
use Rattle.saw.specs.Cuts.{cuts}
use Rattle.saw.specs.Written.{amount_bytes, saw_bytes}
use Rattle.frames.specs.Bytes.{two, eight}
use Rattle.frames.specs.Fields.{mark_bytes}
use Rattle.frames.specs.Answers.{each}
use Rattle.frames.specs.Writing.{LinePut}
use Rattle.desk_frames.specs.declared.Question.{Question}
use Rattle.desk_frames.specs.declared.Question.TheVariants.{WhyNot, RoomLight, FreePiece, RemovablePiece, PartNumbers, Figures, Snapshot, Cuts, EatenArea, Amounts}
use Rattle.desk_frames.specs.declared.write.FigureList.{FigureList}

-- the bytes that are answered behind the op and 00; or a refusal
pub data Found : Type 0 where
  found : List ℕ → Found
  refused_with : Refusal → Found

-- a layout that isn't sound has nothing to find: refusal 1
abbrev pub if_sound : Layout → List ℕ → Found
if_sound l bs = cond (sound_b l) (found bs) (refused_with NotSound)

-- "reason in rotation Default 1, reason in rotation Rotated 1": refusals 1, 3, 4, 5, 6
abbrev pub reasons_found : Result Reasons Refusal → Found
reasons_found (Ok w) = found (reason_no w.default ∷ reason_no w.rotated ∷ [])
reasons_found (Err e) = refused_with e

-- "01 and its mark 7; or 00 and seven zero bytes": refusals 1, 3
abbrev pub light_found : Result (Option Mark) Refusal → Found
light_found (Ok (Some m)) = found (1 ∷ mark_bytes m)
light_found (Ok None) = found (0 ∷ mark_bytes zero_mark)
light_found (Err e) = refused_with e

-- "mark 7": refusals 1, 12
abbrev pub mark_found : Result Mark Refusal → Found
mark_found (Ok m) = found (mark_bytes m)
mark_found (Err e) = refused_with e

-- "area 8": refusal 1
abbrev pub area_found : Result ℕ Refusal → Found
area_found (Ok a) = found (eight a)
area_found (Err e) = refused_with e

-- "how many 2; part number 2 each"
abbrev pub numbers_bytes : List ℕ → List ℕ
numbers_bytes ns = two (length ns) ++ each two ns

-- "used area 8, free area 8, nodes held 2, is it empty 1, sheet usage 8, tree usage 8"
abbrev pub figures_bytes : FigureList → List ℕ
figures_bytes f =
    eight f.used
    ++ (eight f.free
    ++ (two f.nodes
    ++ (f.empty
    ∷ (eight f.sheet
    ++ eight f.tree))))

abbrev pub yes_no : Bool → ℕ
yes_no b = cond b 1 0

abbrev pub figures_of : Layout → FigureList
figures_of l =
    record {
      used = part_area (tree l);
      free = free_area (tree l);
      nodes = count (tree l);
      empty = yes_no (all_free (tree l));
      sheet = to_bits binary64 (sheet_usage (part_area (tree l)) (area l.settings.sheet));
      tree = to_bits binary64 (tree_usage (tree l));
    }

-- "how many nodes 2; each 14 bytes"; "how many cuts 2; each 9 bytes"; "how many cuts 2; what each eats 1"
abbrev pub snapshot_found : Layout → List ℕ
snapshot_found l = two (count (tree l)) ++ snapshot_bytes l

abbrev pub cuts_found : Layout → List ℕ
cuts_found l = two (length (cuts (tree l))) ++ saw_bytes l

abbrev pub amounts_found : Layout → List ℕ
amounts_found l = two (length (cuts (tree l))) ++ amount_bytes l

-- THE RULE: what each question finds in a layout
unfoldable pub found_in : Layout → Question → Found
found_in l (WhyNot mark part) = reasons_found (why_call l mark part)
found_in l (RoomLight part) = light_found (light_of l part)
found_in l (FreePiece position) = mark_found (free_mark_of l position)
found_in l (RemovablePiece position) = mark_found (removable_mark_of l position)
found_in l PartNumbers = if_sound l (numbers_bytes (held_numbers l))
found_in l Figures = if_sound l (figures_bytes (figures_of l))
found_in l Snapshot = if_sound l (snapshot_found l)
found_in l Cuts = if_sound l (cuts_found l)
found_in l EatenArea = area_found (eaten_area_of l)
found_in l Amounts = if_sound l (amounts_found l)

-- its op
abbrev pub question_op : Question → ℕ
question_op (WhyNot mark part) = 17
question_op (RoomLight part) = 18
question_op (FreePiece position) = 19
question_op (RemovablePiece position) = 20
question_op PartNumbers = 21
question_op Figures = 22
question_op Snapshot = 23
question_op Cuts = 24
question_op EatenArea = 25
question_op Amounts = 26

-- of tidying, the answer is "how many 2": refusals 1, 9
abbrev pub tidy_found : Result ⊤ Refusal → ℕ → Found
tidy_found (Ok tt) count = found (two count)
tidy_found (Err e) count = refused_with e

abbrev pub tidy_op : ℕ
tidy_op = 27

-- the bytes of the answer, before their check: "A refusal is op, number, check"
abbrev pub content_for : ℕ → Found → List ℕ
content_for op (found bs) = op ∷ 0 ∷ bs
content_for op (refused_with e) = op ∷ refusal_no e ∷ []

-- what the functions of `replies` leave in the lent line
abbrev pub Tells : Layout → Question → List ℕ → List ℕ → ℕ → Type 0
Tells l q before after n = LinePut before (content_for (question_op q) (found_in l q)) after n
