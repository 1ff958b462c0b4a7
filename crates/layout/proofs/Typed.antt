-- What the type itself says of a layout that a call is handed: its three arrays have as many entries as there are places.
-- A call cites `typed-sized self _ c.good.0`. And of a part: its number is in the domain.
use mathlib.Core.List.{List}
use Prim.Native.Nat.{◌≤◌}
use native.Mathlib.Omega.{arith}
use mir.Val.{Val}
use denote.Laws.{Is}
use denote.Struct.Declared.{row}
use Rattle.piece.specs.declared.parttype.PartType.{PartType}
use Rattle.piece.specs.contracts.parttype.PartType as part
use Rattle.tree.specs.Sound.{max_number}
use Rattle.layout.specs.declared.layout.Layout.{Layout}
use Rattle.layout.specs.SoundLayout.{Sized}
use Rattle.layout.specs.contracts.layout.Layout.{the_type}

pub typed-sized : (l : Layout) (vs : List Val) → Is (row the_type) l vs → Sized l
typed-sized l vs g =
    record {
      nodes = g.1.1.0.1.0.1;
      free = g.1.1.1.0.1.0.1;
      removable = g.1.1.1.1.0.1.0.1;
    }

pub typed-numbered : (p : PartType) (vs : List Val) → Is (row part.the_type) p vs → p.number ≤ max_number
typed-numbered p vs g = omega (arith, g.1.1.0.1)
