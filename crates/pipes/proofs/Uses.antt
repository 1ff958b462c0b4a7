-- For callers of `read_some`: the bytes that came lie in the buffer. Rests on specs/Came.
use mathlib.Core.Path.{◌≡◌, subst}
use mathlib.Core.List.{List}
use Prim.Native.Nat.{ℕ}
use Rattle.pipes.specs.declared.Came.{Came}
use Rattle.pipes.specs.declared.Came.TheVariants.{Bytes}
use Rattle.pipes.specs.Came.{IsPrefixLen, Within}

pub bytes_count : {r : Came} {n : ℕ} (buf : List ℕ) → r ≡ Bytes n → Within r buf → IsPrefixLen n buf
bytes_count buf e w = (subst (λ (c : Came). Within c buf) e w).1
