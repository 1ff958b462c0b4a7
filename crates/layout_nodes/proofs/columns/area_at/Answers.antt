-- `columns::area_at` meets its contract: the entry at a place of the column, and 0 where there is no such place. Assumes nothing.
use mathlib.Core.Path.{refl}
use borrow.Author.Tests.{lt-ltb, le-ltb}
use Rattle.lists.specs.Lists.{limit}
use Rattle.layout_nodes.proofs.columns.area_at.Goals as goal

pub returns-then-p-lt-LIMIT : goal.returns-then-p-lt-LIMIT
returns-then-p-lt-LIMIT c = rw (lt-ltb c.args.place limit c.if-p-lt-LIMIT.true) refl

pub returns-else-p-lt-LIMIT : goal.returns-else-p-lt-LIMIT
returns-else-p-lt-LIMIT c = rw (le-ltb c.args.place limit c.if-p-lt-LIMIT.false) refl
