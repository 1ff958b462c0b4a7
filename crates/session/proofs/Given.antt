-- What the type itself says of what a call is handed: what is pending has 64 bytes.
use mathlib.Core.Path.{◌≡◌}
use mathlib.Core.List.{List}
use lib.ListN.{length}
use mir.Val.{Val}
use denote.Laws.{Is}
use denote.Struct.Declared.{row}
use Rattle.lines.specs.declared.stream.Pending.{Pending}
use Rattle.lines.specs.contracts.stream.Pending as pending

pub pending-sized : (p : Pending) (vs : List Val) → Is (row pending.the_type) p vs → length p.bytes ≡ 64
pending-sized p vs g = g.1.1.0.1.0.1
