-- What `why_not` answers: the reasons of the free piece that a mark names, after "those of offers", refusals 1, 3, 4, 5, 6 in their order (layout's
-- head of a call on a free piece).
use Rattle.std.specs.Prelude.{◌≡◌, ◌⊎◌, Result, Ok, Err}
use Rattle.piece.specs.declared.node.Datum.{Datum}
use Rattle.piece.specs.declared.parttype.PartType.{PartType}
use Rattle.piece.specs.declared.rotation.Rotation.TheVariants.{Default, Rotated}
use Rattle.piece.specs.declared.settings.Settings.{Settings}
use Rattle.marks.specs.declared.Mark.{Mark}
use Rattle.marks.specs.declared.Refusal.{Refusal}
use Rattle.layout.specs.declared.layout.Layout.{Layout}
use Rattle.layout.specs.Asked.{free_piece_of}
use Rattle.questions.specs.declared.reason.Reason.TheVariants.{Offered}
use Rattle.questions.specs.declared.why_not.Reasons.{Reasons}
use Rattle.questions.specs.Reasons.{reason_in}

-- "answer per rotation"
abbrev pub reasons_for : Datum → PartType → Settings → Reasons
reasons_for d p settings =
    record { default = reason_in d p settings Default; rotated = reason_in d p settings Rotated }

abbrev pub why_for : Layout → PartType → Result Datum Refusal → Result Reasons Refusal
why_for l p (Err r) = Err r
why_for l p (Ok d) = Ok (reasons_for d p l.settings)

unfoldable pub why_call : Layout → Mark → PartType → Result Reasons Refusal
why_call l m p = why_for l p (free_piece_of l m p)

-- one of the two reasons is "offered"; where it is refused there is none
abbrev pub SomeOffered : Result Reasons Refusal → Type 0
SomeOffered (Err r) = ⊥
SomeOffered (Ok w) = (w.default ≡ Offered) ⊎ (w.rotated ≡ Offered)
