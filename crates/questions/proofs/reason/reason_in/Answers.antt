-- `reason_in` meets its contract: its five tests are those of `reason_in`, the part turned.
use Rattle.questions.specs.Reasons.{reason_in}
use Rattle.questions.proofs.reason.reason_in.Goals as goal

pub returns : goal.returns
unfolding reason_in
returns c = cc
