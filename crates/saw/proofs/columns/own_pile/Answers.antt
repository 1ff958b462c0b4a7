-- `saw::columns::own_pile` meets its contract, test by test. Assumes nothing.
use mathlib.Core.Path.{refl}
use borrow.Author.Tests.{eq-eqb, ne_eqb}
use Rattle.saw.proofs.columns.own_pile.Goals as goal

pub returns-then-kind-at-eq1 : goal.returns-then-kind-at-eq1
returns-then-kind-at-eq1 c = rw (eq-eqb _ 1 c.if-kind-at-eq1.true) refl

pub returns-then-kind-at-ne0 : goal.returns-then-kind-at-ne0
returns-then-kind-at-ne0 c = rw (ne_eqb _ 1 c.if-kind-at-eq1.false, ne_eqb _ 0 c.if-kind-at-ne0.true) refl

pub returns-then-side-at-eq0 : goal.returns-then-side-at-eq0
returns-then-side-at-eq0 c =
    rw (ne_eqb _ 1 c.if-kind-at-eq1.false, eq-eqb _ 0 c.if-kind-at-ne0.false, eq-eqb _ 0 c.if-side-at-eq0.true) refl

pub returns-else-side-at-eq0 : goal.returns-else-side-at-eq0
returns-else-side-at-eq0 c =
    rw (ne_eqb _ 1 c.if-kind-at-eq1.false, eq-eqb _ 0 c.if-kind-at-ne0.false, ne_eqb _ 0 c.if-side-at-eq0.false) refl
