-- Request 1, "The room light lies about long panels": it "must look at every free piece and at stages too: yes exactly when some free piece has an
-- offer for the part in an allowed rotation", and it "also names the first such piece of the free list". Refusals 1, then 3. It rests on the rules of
-- offers (piece).
use Rattle.std.specs.Prelude.{Bool, cond, ℕ, ltb, get_or, length, Result, Ok, Err, Some, None, Option}
use Rattle.piece.specs.declared.node.Datum.{Datum}
use Rattle.piece.specs.declared.parttype.PartType.{PartType}
use Rattle.piece.specs.declared.settings.Settings.{Settings}
use Rattle.piece.specs.Offers.{offers_of}
use Rattle.lists.specs.Search.{first_from}
use Rattle.table.specs.Table.{at}
use Rattle.marks.specs.declared.Mark.{Mark}
use Rattle.marks.specs.Marks.{zero_mark}
use Rattle.marks.specs.declared.Refusal.TheVariants.{NotSound, PartOutside}
use Rattle.layout.specs.declared.layout.Layout.{Layout}
use Rattle.layout.specs.Check.{sound_b}
use Rattle.layout.specs.Asked.{part_b}
use Rattle.marks.specs.declared.Refusal.{Refusal}
use Rattle.questions.specs.Answers.{mark_of}

-- the piece "has an offer for the part in an allowed rotation"
abbrev pub has_offer : Datum → PartType → Settings → Bool
has_offer piece part settings = ltb 0 (length (offers_of piece part settings))

-- the piece at a position of the free list has one
abbrev pub offering_at : Layout → PartType → ℕ → Bool
offering_at l p k = has_offer (at l.nodes (get_or l.free k 0)).datum p l.settings

-- "the first such piece of the free list": its position, or the list's end where there is none
unfoldable pub first_offering : Layout → PartType → ℕ
first_offering l p = first_from (offering_at l p) l.frees 0

-- what the light says of that position
abbrev pub light_at : Layout → ℕ → Result (Option Mark) Refusal
light_at l k = cond (ltb k l.frees) (Ok (Some (mark_of l (get_or l.free k 0)))) (Ok None)

unfoldable pub light_of : Layout → PartType → Result (Option Mark) Refusal
light_of l p = cond (sound_b l) (cond (part_b p) (light_at l (first_offering l p)) (Err PartOutside)) (Err NotSound)

-- the mark that is named; where the answer is no, or a refusal, it is zero
abbrev pub light_mark : Result (Option Mark) Refusal → Mark
light_mark (Ok (Some m)) = m
light_mark (Ok None) = zero_mark
light_mark (Err r) = zero_mark
