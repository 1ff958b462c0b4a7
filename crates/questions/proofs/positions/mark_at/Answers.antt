-- `mark_at` meets its contract: each way out is one outcome of the tests of `mark_at`. Assumes nothing.
use mathlib.Core.Path.{refl, ap}
use Prim.Native.Nat.{◌<◌}
use native.Mathlib.Omega.{arith}
use lib.ListN.{get_or}
use borrow.Author.Tests.{lt-ltb, le-ltb}
use Rattle.std.specs.Prelude.{Ok}
use Rattle.std.proofs.lemmas.Result.{err_from_is_err_and}
use Rattle.layout.specs.Check.{limit}
use Rattle.layout.proofs.Examined.{passed, refuses, goes_on}
use Rattle.layout.proofs.Ways.{onward, ended}
use Rattle.questions.proofs.positions.mark_at.Goals as goal
use Rattle.questions.proofs.positions.mark_at.Goals.{Else-count-position}

-- past the two refusals the position is below the list's end, and the entry there is a place
low : (c : Else-count-position) → let a = c.args in (a.position < limit) × (get_or a.list a.position 0 < limit)
low c =
    let placed = c.requires (passed c.args.layout c.in_ok-examined.ensures) in
    (omega (arith, placed.0, c.if-count-position.false), placed.1 c.args.position c.if-count-position.false)

pub returns-in_err-examined : goal.returns-in_err-examined
returns-in_err-examined c = refuses c.args.layout _ c.in_err-examined.ensures (err_from_is_err_and c.from_residual.result c.from_residual.ensures.1)

pub returns-then-count-position : goal.returns-then-count-position
returns-then-count-position c =
    goes_on c.args.layout _ c.in_ok-examined.ensures (ended _ (le-ltb _ _ c.if-count-position.true) refl)

pub bounds-list-position : goal.bounds-list-position
bounds-list-position c = let placed = c.requires (passed c.args.layout c.in_ok-examined.ensures) in omega (arith, placed.0, c.if-count-position.false)

pub mark_of-requires : goal.mark_of-requires
mark_of-requires c = (low c).1

pub returns : goal.returns
returns c =
    goes_on c.args.layout _ c.in_ok-examined.ensures (onward _ (lt-ltb _ _ c.if-count-position.false) (ap Ok c.mark_of.ensures))
