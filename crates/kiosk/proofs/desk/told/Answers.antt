-- `told` meets its contract. Assumes nothing.
use Rattle.kiosk.proofs.AtDesk.{question-answered}
use Rattle.kiosk.proofs.desk.told.Goals as goal

pub returns : goal.returns
returns c =
    question-answered c.layout_of.ensures c.answer-count.ensures
