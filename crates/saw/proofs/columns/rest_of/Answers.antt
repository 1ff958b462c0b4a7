-- `saw::columns::rest_of` meets its contract, test by test. Assumes nothing.
use mathlib.Core.Path.{refl}
use borrow.Author.Tests.{le-leb, lt-leb, eq-eqb, ne_eqb}
use Rattle.lists.specs.Lists.{limit}
use Rattle.saw.proofs.columns.rest_of.Goals as goal

pub returns-then-r-ge-NONE : goal.returns-then-r-ge-NONE
returns-then-r-ge-NONE c = rw (le-leb limit _ c.if-r-ge-NONE.true) refl

pub returns-then-side-there-ne0 : goal.returns-then-side-there-ne0
returns-then-side-there-ne0 c = rw (lt-leb limit _ c.if-r-ge-NONE.false, ne_eqb _ 0 c.if-side-there-ne0.true) refl

pub returns-then-eaten-at-eq0 : goal.returns-then-eaten-at-eq0
returns-then-eaten-at-eq0 c =
    rw (lt-leb limit _ c.if-r-ge-NONE.false, eq-eqb _ 0 c.if-side-there-ne0.false, eq-eqb _ 0 c.if-eaten-at-eq0.true) refl

pub returns-else-eaten-at-eq0 : goal.returns-else-eaten-at-eq0
returns-else-eaten-at-eq0 c =
    rw (lt-leb limit _ c.if-r-ge-NONE.false, eq-eqb _ 0 c.if-side-there-ne0.false, ne_eqb _ 0 c.if-eaten-at-eq0.false) refl
