-- `zero` meets its contract: no place is held.
use mathlib.Core.Path.{refl}
use Rattle.layout.specs.Zero.{zero_layout}
use Rattle.layout.proofs.layout.Layout.zero.Goals as goal

pub returns : goal.returns
unfolding zero_layout
returns c = rw c.empty_table.ensures refl
