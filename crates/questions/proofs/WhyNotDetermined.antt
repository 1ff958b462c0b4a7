-- The contract of each function that answers determines its answer: two answers that meet it are the same.
use mathlib.Core.Path.{◌≡◌}
use Prim.Native.Nat.{ℕ}
use Rattle.piece.specs.declared.node.Datum.{Datum}
use Rattle.piece.specs.declared.parttype.PartType.{PartType}
use Rattle.piece.specs.declared.rotation.Rotation.{Rotation}
use Rattle.piece.specs.declared.settings.Settings.{Settings}
use Rattle.marks.specs.declared.Mark.{Mark}
use Rattle.layout.specs.declared.layout.Layout.{Layout}
use Rattle.layout.proofs.Determined.{only}
use Rattle.questions.specs.declared.reason.Reason.{Reason}
use Rattle.std.specs.Prelude.{Result}
use Rattle.marks.specs.declared.Refusal.{Refusal}
use Rattle.questions.specs.declared.why_not.Reasons.{Reasons}
use Rattle.questions.specs.Reasons.{reason_in, reason_no}
use Rattle.questions.specs.WhyNot.{why_call}

pub number-is-one : (x : Reason) (r s : ℕ) → r ≡ reason_no x → s ≡ reason_no x → r ≡ s
number-is-one x = only

pub reason-in-is-one : (d : Datum) (p : PartType) (settings : Settings) (q : Rotation) (r s : Reason)
    → r ≡ reason_in d p settings q → s ≡ reason_in d p settings q → r ≡ s
reason-in-is-one d p settings q = only

pub why-not-is-one : (l : Layout) (m : Mark) (p : PartType) (r s : Result Reasons Refusal) → r ≡ why_call l m p → s ≡ why_call l m p → r ≡ s
why-not-is-one l m p = only
