-- `lines::newline` meets its contract: from each place passed the first newline is the same. Assumes nothing.
use mathlib.Core.Path.{◌≡◌}
use Rattle.lines.specs.Lines.{newline_from}
use Rattle.lines.proofs.newline.Given as goal

abbrev pub invariant-loop-i : goal.invariant-loop-i
invariant-loop-i l = newline_from l.text l.i ≡ newline_from l.text l.at
