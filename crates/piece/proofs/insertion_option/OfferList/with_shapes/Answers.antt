-- `OfferList::with_shapes` meets its contract: each way out is one case of `shapes`, with the tests that led there.
use mathlib.Core.Path.{ap, ◌∙◌}
use mathlib.Core.Bool.{and-false}
use Prim.Native.Nat.{◌+◌}
use native.Mathlib.Omega.{arith}
use borrow.Author.Tests.{le-ltb, lt-ltb}
use Rattle.piece.specs.declared.insertion_option.OfferList.{OfferList}
use Rattle.piece.specs.Offers.{shapes}
use Rattle.piece.proofs.insertion_option.OfferList.with_shapes.Goals as goal

pub returns-then-along : goal.returns-then-along
unfolding shapes
returns-then-along c = c.with.ensures ∙ simp c.if-along.true

pub returns-then-stages-level : goal.returns-then-stages-level
unfolding shapes
returns-then-stages-level c =
    let a = c.args in
    simp (
      c.if-along.false,
      le-ltb _ _ c.if-stages-level.true,
      le-ltb (a.level + 1) a.stages (omega arith),
      and-false a.across,
    )

pub returns-then-across : goal.returns-then-across
unfolding shapes
returns-then-across c =
    c.with-then-across.ensures
    ∙ simp (c.if-along.false, lt-ltb _ _ c.if-stages-level.false, c.if-across.true)

pub returns-then-stages-level-le1 : goal.returns-then-stages-level-le1
unfolding shapes
returns-then-stages-level-le1 c =
    let a = c.args in
    c.with-one.ensures
    ∙ simp (
      c.if-along.false,
      lt-ltb _ _ c.if-stages-level.false,
      c.if-across.false,
      le-ltb (a.level + 1) a.stages (omega arith),
    )

pub with-requires-2 : goal.with-requires-2
with-requires-2 c = omega (arith, ap (λ (o : OfferList). o.count) c.with-one.ensures)

pub returns : goal.returns
unfolding shapes
returns c =
    let a = c.args in
    c.with-2.ensures
    ∙ simp (
      c.with-one.ensures,
      c.if-along.false,
      lt-ltb _ _ c.if-stages-level.false,
      c.if-across.false,
      lt-ltb (a.level + 1) a.stages (omega arith),
    )
