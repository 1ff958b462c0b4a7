-- `refused_insert` meets its contract: the marks are `zero_marks`.
use mathlib.Core.Path.{ap}
use Rattle.std.specs.Prelude.{Err}
use Rattle.booking.specs.declared.new_marks.NewMarks.{NewMarks}
use Rattle.layout.proofs.layout.Layout.refused_insert.Goals as goal

pub returns : goal.returns
returns c =
    let a = c.args in
    ap (λ (m : NewMarks). record { outcome = Err a.refusal; marks = m; layout = a.self }) c.no_marks.ensures
