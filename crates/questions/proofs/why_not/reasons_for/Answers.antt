-- `reasons_for` meets its contract: the reason of each rotation.
use Rattle.questions.proofs.why_not.reasons_for.Goals as goal

pub returns : goal.returns
returns c = cc
