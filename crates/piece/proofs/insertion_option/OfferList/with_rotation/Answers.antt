-- `OfferList::with_rotation` meets its contract: a rotation that is forbidden or does not fit adds nothing, any other its shapes.
use mathlib.Core.Path.{sym, ◌∙◌}
use Rattle.piece.specs.Offers.{offers_in}
use Rattle.piece.proofs.insertion_option.OfferList.with_rotation.Goals as goal
use Rattle.piece.proofs.insertion_option.OfferList.with_rotation.Goals.{then-not-allows-via-then-not-allows, then-not-allows-via-else-not-allows+then-not-insertion_possible}

pub returns-then-not-allows : goal.returns-then-not-allows
unfolding offers_in
returns-then-not-allows c =
    elim c.then-not-allows.branch [
      | then-not-allows-via-then-not-allows w ↦ simp (sym c.allows.ensures ∙ w.if-not-allows.true)
      | then-not-allows-via-else-not-allows+then-not-insertion_possible w ↦ simp (
        ← c.size_in-size.ensures,
        sym c.allows.ensures ∙ w.if-not-allows.false,
        sym w.insertion_possible.ensures ∙ w.if-not-insertion_possible.true,
      )
    ]

pub returns : goal.returns
unfolding offers_in
returns c =
    c.with_shapes.ensures
    ∙ simp (
      c.fits_along-along.ensures,
      c.fits_across-across.ensures,
      ← c.size_in-size.ensures,
      sym c.allows.ensures ∙ c.if-not-allows.false,
      sym c.insertion_possible.ensures ∙ c.if-not-insertion_possible.false,
    )
