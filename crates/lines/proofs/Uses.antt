-- For callers of `Pending::take`: each step goes forward. Rests on specs/Stream and on Ahead.
use mathlib.Core.Path.{◌≡◌, refl}
use mathlib.Core.Bool.{Bool, true, false, cond}
use mathlib.Core.List.{List}
use Prim.Native.Nat.{ℕ, ◌+◌, ◌<◌}
use native.Mathlib.Omega.{arith}
use lib.Dec.{ltb}
use lib.ListN.{length}
use borrow.Author.Tests.{ltb-false}
use Rattle.lines.specs.declared.stream.Pending.{Pending}
use Rattle.lines.specs.Lines.{newline_from}
use Rattle.lines.specs.Stream.{take_of}
use Rattle.lines.proofs.Ahead.{at-newline}

pub take-forward : (p : Pending) (chunk : List ℕ) (at : ℕ) → at < length chunk → at < (take_of p chunk at).next
unfolding take_of
take-forward p chunk at h = go (ltb (newline_from chunk at) (length chunk)) refl
  where
    go : (b : Bool) → ltb (newline_from chunk at) (length chunk) ≡ b → at < cond b (newline_from chunk at + 1) (newline_from chunk at)
    go true e = omega (arith, at-newline chunk at)
    go false e = omega (arith, ltb-false (newline_from chunk at) (length chunk) e)
