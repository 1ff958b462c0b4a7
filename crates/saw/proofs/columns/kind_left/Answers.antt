-- `saw::columns::kind_left` meets its contract, by whether something is left behind r. Assumes nothing.
use mathlib.Core.Path.{refl}
use borrow.Author.Tests.{le-leb, lt-leb}
use Rattle.lists.specs.Lists.{limit}
use Rattle.saw.proofs.columns.kind_left.Goals as goal

pub returns-then-rest_of-ge-NONE : goal.returns-then-rest_of-ge-NONE
returns-then-rest_of-ge-NONE c = rw (← c.rest_of.ensures, le-leb limit _ c.if-rest_of-ge-NONE.true) refl

pub returns-else-rest_of-ge-NONE : goal.returns-else-rest_of-ge-NONE
returns-else-rest_of-ge-NONE c = rw (← c.rest_of.ensures, lt-leb limit _ c.if-rest_of-ge-NONE.false) refl
