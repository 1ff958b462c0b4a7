-- `asked` meets its contract: by what is asked, and what is told of the layouts is written back. Assumes nothing.
use mathlib.Core.Path.{sym}
use Rattle.kiosk.proofs.Stepping.{of-layout-answered, keep-answered, restore-answered, malformed-answered}
use Rattle.kiosk.proofs.asked.Goals as goal
use Rattle.kiosk.proofs.asked.Goals.{in-OfLayout, in-Restore}

-- keep, of a sound layout and of another
pub returns-then-answer : goal.returns-then-answer
returns-then-answer c =
    let s = c.args in
    rw c.says.ensures
    (keep-answered s.given s.request c.layout_of-layout.ensures (sym c.in-Keep.is) c.keep-answer.ensures c.if-answer.true)

pub returns-in-Keep : goal.returns-in-Keep
returns-in-Keep c =
    let s = c.args in
    rw c.says-in-Keep.ensures
    (keep-answered s.given s.request c.layout_of-layout.ensures (sym c.in-Keep.is) c.keep-answer.ensures c.if-answer.false)

pub returns-in-Malformed : goal.returns-in-Malformed
returns-in-Malformed c =
    let s = c.args in
    rw c.says-in-Malformed.ensures
    (malformed-answered s.given s.request c.layout_of-layout.ensures (sym c.in-Malformed.is) c.malformed.ensures)

-- what is told of the layouts, by a call on them or by restore
pub returns : goal.returns
returns c =
    let s = c.args in
    rw c.told.ensures
    (elim c.match-request.branch [
      | in-OfLayout w ↦ rw w.response-is
          (of-layout-answered s.given s.request c.layout_of-layout.ensures (sym w.in-OfLayout.is) w.replied-response.ensures)
      | in-Restore w ↦ rw w.response-is
          (restore-answered s.given s.request c.layout_of-layout.ensures w.layout_of.ensures (sym w.in-Restore.is) w.restore-response.ensures)
    ])
