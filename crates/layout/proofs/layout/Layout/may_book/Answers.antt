-- `may_book` meets its contract: each way out is one outcome of the tests of `book_no`.
use mathlib.Core.Path.{refl, sym, ap}
use mathlib.Core.Option.{none, some}
use native.Mathlib.Omega.{arith}
use borrow.Author.Tests.{le-leb, lt-leb}
use Rattle.piece.proofs.Blocks.{new-nodes-few}
use Rattle.marks.specs.declared.Refusal.TheVariants.{NotOffered, TooManyNodes, SerialsSpent}
use Rattle.layout.specs.Refusing.{outcome_of}
use Rattle.layout.specs.Insert.{book_no}
use Rattle.layout.proofs.Ways.{onward, ended, onward-by, ended_by}
use Rattle.layout.proofs.layout.Layout.may_book.Goals as goal

pub returns-then-not-is_offered : goal.returns-then-not-is_offered
unfolding book_no
returns-then-not-is_offered c = ap outcome_of (ended_by {r = some NotOffered} _ c.is_offered.ensures c.if-not-is_offered.true refl)

pub overflow_add-self : goal.overflow_add-self
overflow_add-self c =
    let few = rw (sym c.new_count-new.ensures) at (new-nodes-few c.args.shape) in
    omega (arith, c.requires)

pub returns-then-self-new-gt-LIMIT : goal.returns-then-self-new-gt-LIMIT
unfolding book_no
returns-then-self-new-gt-LIMIT c =
    ap outcome_of
    (onward-by {r = some TooManyNodes} _ c.is_offered.ensures c.if-not-is_offered.false
    (ended _ (lt-leb _ _ (rw c.new_count-new.ensures at c.if-self-new-gt-LIMIT.true)) refl))

pub returns-then-self-new-gt-MAX_SERIAL : goal.returns-then-self-new-gt-MAX_SERIAL
unfolding book_no
returns-then-self-new-gt-MAX_SERIAL c =
    ap outcome_of
    (onward-by {r = some SerialsSpent} _ c.is_offered.ensures c.if-not-is_offered.false
    (onward _ (le-leb _ _ (rw c.new_count-new.ensures at c.if-self-new-gt-LIMIT.false)) (ended _ (lt-leb _ _ (rw c.new_count-new.ensures at c.if-self-new-gt-MAX_SERIAL.true)) refl)))

pub returns : goal.returns
unfolding book_no
returns c =
    ap outcome_of
    (onward-by {r = none} _ c.is_offered.ensures c.if-not-is_offered.false
    (onward _ (le-leb _ _ (rw c.new_count-new.ensures at c.if-self-new-gt-LIMIT.false)) (onward _ (le-leb _ _ (rw c.new_count-new.ensures at c.if-self-new-gt-MAX_SERIAL.false)) refl)))
