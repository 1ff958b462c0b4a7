-- The invariant of `put_nine`: the loop has copied the first j bytes.
use mathlib.Core.Path.{◌≡◌}
use lib.ListN.{take, drop}
use lib.Seq.{sets}
use Rattle.saw.proofs.cuts.put_nine.Given as goal

abbrev pub invariant-loop-j : goal.invariant-loop-j
invariant-loop-j l = l.out ≡ sets l.initial.out l.to (take l.j (drop l.from l.list))
