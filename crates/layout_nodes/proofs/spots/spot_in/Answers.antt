-- `spots::spot_in` meets its contract: where the column leads to the place, there it stands first; else it stands nowhere. Assumes nothing.
use native.Mathlib.Omega.{arith}
use Rattle.layout_nodes.proofs.Lookup.{spot-found, spot-missing}
use Rattle.layout_nodes.proofs.spots.spot_in.Goals as goal

pub returns-then-p-ge-LIMIT : goal.returns-then-p-ge-LIMIT
returns-then-p-ge-LIMIT c =
    let h = rw c.wide-p.ensures at c.if-p-ge-LIMIT.true in
    spot-missing c.requires.1 c.args.place (λ b d e. omega arith)

pub returns-then-count-at : goal.returns-then-count-at
returns-then-count-at c =
    let h = rw c.wide-p.ensures at c.if-count-at.true in
    spot-missing c.requires.1 c.args.place (λ b d e. omega arith)

pub returns-then-list-at : goal.returns-then-list-at
returns-then-list-at c =
    rw c.wide-p.ensures
    (spot-found c.requires.1 c.args.place (rw c.wide-p.ensures at c.if-count-at.false) (rw c.wide-p.ensures at c.if-list-at.true))

pub returns-else-list-at : goal.returns-else-list-at
returns-else-list-at c =
    let h = rw c.wide-p.ensures at c.if-list-at.false in
    spot-missing c.requires.1 c.args.place (λ b d e. h e)
