-- `open` meets its contract: refused outside the domain, and else the layout as it opens.
use mathlib.Core.Path.{◌≡◌, refl, sym, ◌∙◌}
use mathlib.Core.Bool.{true, false}
use Rattle.layout.specs.Check.{domain_b}
use Rattle.layout.specs.Open.{open_of}
use Rattle.layout.proofs.layout.Layout.open.Goals as goal

pub returns-then-not-domain_ok : goal.returns-then-not-domain_ok
unfolding open_of
returns-then-not-domain_ok c =
    let a = c.args in
    let d : domain_b a.opening.settings ≡ false = sym c.domain_ok.ensures ∙ c.if-not-domain_ok.true in
    rw (d, c.zero-layout.ensures) refl

pub returns : goal.returns
unfolding open_of
returns c =
    let a = c.args in
    let d : domain_b a.opening.settings ≡ true = sym c.domain_ok.ensures ∙ c.if-not-domain_ok.false in
    rw (d, c.fresh-layout.ensures) refl
