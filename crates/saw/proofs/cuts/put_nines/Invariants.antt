-- The invariant of `put_nines`: the loop has copied the cuts of the first k entries.
use mathlib.Core.Path.{◌≡◌}
use lib.Seq.{sets}
use Rattle.saw.specs.Listed.{nines_of}
use Rattle.saw.proofs.cuts.put_nines.Given as goal

abbrev pub invariant-loop-k : goal.invariant-loop-k
invariant-loop-k l = l.out ≡ sets l.initial.out 0 (nines_of l.k l.list)
