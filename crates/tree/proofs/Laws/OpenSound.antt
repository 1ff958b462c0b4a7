-- Opening makes a sound tree. Document 01, "The sheet and its pieces": "Open" and "Sound layout".
use mathlib.Core.Path.{refl}
use Prim.Native.Nat.{ℕ, ◌≤◌}
use native.Mathlib.Omega.{arith}
use Rattle.piece.specs.declared.settings.Opening.{Opening}
use Rattle.tree.specs.Open.{opened}
use Rattle.tree.specs.Sound.{Domain, Sound}
use Rattle.tree.proofs.Numbered.{numbered-in, numbered-distinct}
use Rattle.tree.proofs.Pieces.{sided, free-piece, structure-piece, child, top, sound}

pub open-sound : (limit : ℕ) (o : Opening) → 2 ≤ limit → Domain o.settings → Sound limit o.settings (opened o)
open-sound limit o room h =
    sound h (
      top refl refl refl refl refl refl
          (structure-piece (omega arith) (sided h.wide h.tall) (omega arith) refl),
      record { child = child refl h.least refl refl (omega arith); kinded = free-piece refl refl refl; ends = λ z. refl; below = tt; beside = tt },
    )
    room
    (λ i g. let z = numbered-in 0 i (opened o) (refl, (refl, tt, tt), tt) g in omega arith)
    (numbered-distinct 0 (opened o) (refl, (refl, tt, tt), tt))
