-- What the types themselves say of what goes: its array has as many entries as there are places. A function cites `all-goes g _ (c.well_formed ..)`.
use mathlib.Core.Path.{◌≡◌}
use mathlib.Core.List.{List}
use lib.ListN.{length}
use mir.Val.{Val}
use denote.Laws.{Is}
use denote.Struct.Declared.{row}
use Rattle.lists.specs.Lists.{limit}
use Rattle.removal.specs.declared.going.Going.{Going}
use Rattle.removal.specs.contracts.going.Going as goes

pub all-goes : (g : Going) (vs : List Val) → Is (row goes.the_type) g vs → length g.order ≡ limit
all-goes g vs i = i.1.1.0.1.0.1
