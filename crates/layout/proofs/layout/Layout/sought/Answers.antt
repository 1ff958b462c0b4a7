-- `sought` meets its contract: each way out is one outcome of the tests of `sought_of`.
use mathlib.Core.Path.{refl, ap}
use mathlib.Core.Bool.{not}
use borrow.Author.Tests.{eq-eqb, ne_eqb, le-leb, lt-leb}
use Rattle.layout.specs.Asked.{sought_of}
use Rattle.layout.proofs.Ways.{onward, ended, either, or_else}
use Rattle.layout.proofs.layout.Layout.sought.Goals as goal
use Rattle.layout.proofs.layout.Layout.sought.Goals.{then-d-eq0-via-then-d-eq0, then-d-eq0-via-else-d-eq0+then-d-mark}

pub returns-then-mark-self : goal.returns-then-mark-self
unfolding sought_of
returns-then-mark-self c = ended _ (ne_eqb _ _ c.if-mark-self.true) refl

pub returns-then-place-ge-NONE : goal.returns-then-place-ge-NONE
unfolding sought_of
returns-then-place-ge-NONE c =
    onward _ (eq-eqb _ _ c.if-mark-self.false) (onward _ (either _ (le-leb _ _ c.if-place-ge-NONE.true)) refl)

pub returns-then-d-eq0 : goal.returns-then-d-eq0
unfolding sought_of
returns-then-d-eq0 c =
    elim c.then-d-eq0.branch [
      | then-d-eq0-via-then-d-eq0 w ↦
          onward _ (eq-eqb _ _ c.if-mark-self.false)
          (onward _ (or_else (lt-leb _ _ c.if-place-ge-NONE.false) (either _ (eq-eqb _ _ w.if-d-eq0.true))) refl)
      | then-d-eq0-via-else-d-eq0+then-d-mark w ↦
          onward _ (eq-eqb _ _ c.if-mark-self.false)
          (onward _
          (or_else (lt-leb _ _ c.if-place-ge-NONE.false) (or_else (ne_eqb _ _ w.if-d-eq0.false) (ap not (ne_eqb _ _ w.if-d-mark.true)))) refl)
    ]

pub returns : goal.returns
unfolding sought_of
returns c =
    onward _ (eq-eqb _ _ c.if-mark-self.false)
    (ended _
    (or_else (lt-leb _ _ c.if-place-ge-NONE.false) (or_else (ne_eqb _ _ c.if-d-eq0.false) (ap not (eq-eqb _ _ c.if-d-mark.false)))) refl)
