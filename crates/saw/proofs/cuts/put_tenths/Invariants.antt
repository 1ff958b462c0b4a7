-- The invariant of `put_tenths`: the loop has copied the tenths of the first k entries.
use mathlib.Core.Path.{◌≡◌}
use lib.Seq.{sets}
use Rattle.saw.specs.Listed.{tenths_of}
use Rattle.saw.proofs.cuts.put_tenths.Given as goal

abbrev pub invariant-loop-k : goal.invariant-loop-k
invariant-loop-k l = l.out ≡ sets l.initial.out 0 (tenths_of l.k l.list)
