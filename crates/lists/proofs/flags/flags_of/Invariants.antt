-- `lists::flags::flags_of` meets its contract: the entries that were passed are places and differ, and their flags stand alone. Assumes nothing.
use mathlib.Core.Path.{◌≡◌}
use mathlib.Core.Bool.{true}
use Rattle.lists.specs.Lists.{limit}
use Rattle.lists.specs.Search.{every}
use Rattle.lists.specs.Flags.{new_at}
use Rattle.lists.proofs.Named.{Flagged}
use Rattle.lists.proofs.flags.flags_of.Given as goal

abbrev pub invariant-loop-place : goal.invariant-loop-place
invariant-loop-place l =
    (every (new_at limit l.list) l.place-index ≡ true) × Flagged limit l.list l.flag l.place-index
