-- `at_counter` meets its contract: the counter's line stands first in zeros. Assumes nothing.
use Rattle.kiosk.proofs.AtDesk.{counter-room, counter-answered}
use Rattle.kiosk.proofs.desk.at_counter.Goals as goal

pub copy_first-requires : goal.copy_first-requires
copy_first-requires c = counter-room c.asked-stepped.ensures

pub returns : goal.returns
returns c = counter-answered c.asked-stepped.ensures c.copy_first.ensures
