-- Which requests and answers fit the fields of their frames. What a line asks does (proofs/Heard.antt, `request-fits`), and so does every answer of the
-- counter (session/proofs/Fitting.antt, `counter-fits`).
use Rattle.std.specs.Prelude.{◌^◌, ◌<◌, List, [], ◌∷◌, length}
use Rattle.piece.specs.declared.parttype.PartType.{PartType}
use Rattle.piece.specs.declared.settings.Opening.{Opening}
use Rattle.piece.specs.declared.size.Size.{Size}
use Rattle.marks.specs.declared.Mark.{Mark}
use Rattle.frames.specs.declared.Ask.TheVariants.{Open, Offers, Insert, Remove, Report}
use Rattle.frames.specs.declared.Request.{Request}
use Rattle.frames.specs.declared.Request.TheVariants.{OfLayout, Keep, Restore, Malformed}
use Rattle.frames.specs.Answers.{Answer, refused, opened, offered, inserted, removed, done, reported, malformed}

pub record MarkFits (m : Mark) : Type 0 where
  pub layout : m.layout < 2 ^ 16
  pub place : m.place < 2 ^ 8
  pub serial : m.serial < 2 ^ 32

pub record SizeFits (s : Size) : Type 0 where
  pub width : s.width < 2 ^ 32
  pub height : s.height < 2 ^ 32

pub record PartFits (p : PartType) : Type 0 where
  pub number : p.number < 2 ^ 16
  pub size : SizeFits p.size

pub record OpeningFits (o : Opening) : Type 0 where
  pub number : o.number < 2 ^ 16
  pub sheet : SizeFits o.settings.sheet
  pub stages : o.settings.stages < 2 ^ 8
  pub blade : o.settings.blade < 2 ^ 8

abbrev pub RequestFits : Request → Type 0
RequestFits (OfLayout (Open opening)) = OpeningFits opening
RequestFits (OfLayout (Offers mark part)) = MarkFits mark × PartFits part
RequestFits (OfLayout (Insert mark part rotation shape)) = MarkFits mark × PartFits part
RequestFits (OfLayout (Remove mark)) = MarkFits mark
RequestFits (OfLayout Report) = Unit
RequestFits Keep = Unit
RequestFits Restore = Unit
RequestFits Malformed = Unit

module _ {A : Type 0} where
  pub data Each (P : A → Type 0) : List A → Type 0 where
    none : Each P []
    more : {x : A} {xs : List A} → P x → Each P xs → Each P (x ∷ xs)

abbrev pub AnswerFits : Answer → Type 0
AnswerFits (refused op refusal) = op < 2 ^ 8
AnswerFits (opened mark) = MarkFits mark
AnswerFits (offered offers) = length offers < 2 ^ 8
AnswerFits (inserted first part frees) = MarkFits first × MarkFits part × (length frees < 2 ^ 8) × Each MarkFits frees
AnswerFits (removed mark numbers) = MarkFits mark × (length numbers < 2 ^ 8) × Each (λ n. n < 2 ^ 16) numbers
AnswerFits (done op) = op < 2 ^ 8
AnswerFits (reported used nodes bits) = (used < 2 ^ 64) × (nodes < 2 ^ 8) × (bits < 2 ^ 64)
AnswerFits malformed = Unit
