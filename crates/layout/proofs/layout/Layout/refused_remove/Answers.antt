-- `refused_remove` meets its contract: the mark is `zero_mark`.
use mathlib.Core.Path.{ap}
use Rattle.std.specs.Prelude.{Err}
use Rattle.marks.specs.declared.Mark.{Mark}
use Rattle.layout.proofs.layout.Layout.refused_remove.Goals as goal

pub returns : goal.returns
returns c =
    let a = c.args in
    ap (λ (m : Mark). record { outcome = Err a.refusal; free = m; count = 0; layout = a.self }) c.zero.ensures
