-- `told` meets its contract: nothing is written where the answer is a refusal. Assumes nothing.
use mathlib.Core.Path.{refl}
use Rattle.kiosk.proofs.told.Goals as goal

pub returns-then-answer : goal.returns-then-answer
returns-then-answer c = rw (c.says.ensures, c.if-answer.true) refl

pub returns : goal.returns
returns c = rw (c.says-2.ensures, c.layout_record-given.ensures, c.if-answer.false) refl
