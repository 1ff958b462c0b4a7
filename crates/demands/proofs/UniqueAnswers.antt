-- Document 01, "How tight the contracts are": "For each call its contract determines the answer and the lent bytes afterwards, refusals too". Two
-- answers of a public call of `layout`, `questions`, `saw`, `questions` or `session` that meet its contract are the same, and so is what they leave in a lent
-- buffer; the next layout or state is a part of the answer. There is no exception. Of each crate Determined or Unique has the theorem for each call; the
-- public tests `side_ok`, `domain_ok` and `part_ok` have theirs here. (The contracts of the public steps of `saw`, `put_cut` and
-- `list_row`, are equations: `only`.)
use mathlib.Core.Path.{◌≡◌}
use mathlib.Core.Bool.{Bool}
use Prim.Native.Nat.{ℕ}
use Rattle.piece.specs.declared.parttype.PartType.{PartType}
use Rattle.piece.specs.declared.settings.Settings.{Settings}
use Rattle.layout.specs.Check.{domain_b, side_b}
use Rattle.layout.specs.Asked.{part_b}
pub use Rattle.layout.proofs.Determined.{open-is-one, insert-is-one, remove-is-one, remove-leaves-one, restore-is-one, zero-is-one}
pub use Rattle.layout.proofs.Determined.{only, sound-is-one, free-piece-is-one}
pub use Rattle.layout.proofs.Determined.{tidy-is-one}
pub use Rattle.questions.proofs.Determined.{used-area-is-one, free-area-is-one, nodes-held-is-one, sheet-usage-is-one, tree-usage-is-one, is-empty-is-one}
pub use Rattle.questions.proofs.Determined.{free-mark-is-one, removable-mark-is-one, room-light-is-one, offers-is-one}
pub use Rattle.questions.proofs.Determined.{snapshot-is-one, snapshot-leaves-one, part-numbers-is-one, part-numbers-leaves-one}
pub use Rattle.saw.proofs.Unique.{cuts-is-one, cuts-leaves-one}
pub use Rattle.questions.proofs.WhyNotDetermined.{number-is-one, reason-in-is-one, why-not-is-one}
pub use Rattle.session.proofs.Unique.{session-start-is-one, asked-is-one, step-is-one, malformed-is-one, listener-start-is-one, turn-is-one, end-is-one}
pub use Rattle.session.proofs.Decided.{replies-once, keeps-once, restores-once, same-said}

pub side-ok-is-one : (side : ℕ) (a b : Bool) → a ≡ side_b side → b ≡ side_b side → a ≡ b
side-ok-is-one side = only

pub domain-ok-is-one : (settings : Settings) (a b : Bool) → a ≡ domain_b settings → b ≡ domain_b settings → a ≡ b
domain-ok-is-one settings = only

pub part-ok-is-one : (p : PartType) (a b : Bool) → a ≡ part_b p → b ≡ part_b p → a ≡ b
part-ok-is-one p = only
