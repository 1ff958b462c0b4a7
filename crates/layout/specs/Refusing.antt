-- What a call is refused with, or nothing: `none` says that it is accepted.
use Rattle.std.specs.Prelude.{cond, Result, Ok, Err, ⊤}
use Rattle.std.proofs.Math.Option.{Option, none, some}
use Rattle.marks.specs.declared.Refusal.{Refusal}
use Rattle.marks.specs.declared.Refusal.TheVariants.{NotSound}
use Rattle.layout.specs.declared.layout.Layout.{Layout}
use Rattle.layout.specs.Check.{sound_b}

-- as the code says it
abbrev pub outcome_of : Option Refusal → Result ⊤ Refusal
outcome_of none = Ok tt
outcome_of (some e) = Err e

-- "Tested in this order": the first of two
abbrev pub or_else : Option Refusal → Option Refusal → Option Refusal
or_else none o = o
or_else (some e) o = some e

-- refusal 1, "layout or snapshot isn't sound": the head of a call
abbrev pub examined_of : Layout → Result ⊤ Refusal
examined_of l = cond (sound_b l) (Ok tt) (Err NotSound)

-- whether it is refused, and with what, of an answer that has a value where it is not
abbrev pub outcome_in : {A : Type 0} → Result A Refusal → Result ⊤ Refusal
outcome_in (Ok x) = Ok tt
outcome_in (Err e) = Err e
