-- `all_listed` meets its contract: every place that was passed is listed. Assumes nothing.
use mathlib.Core.Path.{◌≡◌}
use mathlib.Core.Bool.{Bool, true}
use mathlib.Core.List.{List}
use Prim.Native.Nat.{ℕ}
use lib.ListN.{get_or}
use Rattle.lists.specs.Search.{every}
use Rattle.kiosk.specs.declared.records.NodeRecord.{NodeRecord}
use Rattle.kiosk.specs.Records.{listed_b, no_record}
use Rattle.kiosk.proofs.records.all_listed.Given as goal

abbrev pub listed_at : List NodeRecord → ℕ → Bool
listed_at rs i = listed_b (get_or rs i no_record)

abbrev pub invariant-loop-i : goal.invariant-loop-i
invariant-loop-i l = every (listed_at l.records) l.i ≡ true
