-- "areas stay below 2^52": the two areas that a sound layout's record has, that of its parts and that of its sheet.
use Prim.Native.Nat.{◌^◌, ◌<◌}
use native.Mathlib.Omega.{arith}
use Rattle.piece.specs.Sides.{area}
use Rattle.tree.proofs.Usage.{sheet-small}
use Rattle.tree.proofs.Laws.AreaConserved.{area-conserved}
use Rattle.layout.specs.declared.layout.Layout.{Layout}
use Rattle.layout.specs.Check.{tree}
use Rattle.layout.specs.SoundLayout.{SoundLayout}

pub used-small : (l : Layout) → SoundLayout l → (l.used < 2 ^ 52) × (area l.settings.sheet < 2 ^ 52)
used-small l s =
    let sheet = sheet-small s.sound.domain in
    (omega (arith, s.used, area-conserved (tree l) s.sound), sheet)
