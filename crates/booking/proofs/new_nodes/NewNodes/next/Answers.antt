-- `NewNodes::next` meets its contract: the test on the parent is that of the rule. Assumes nothing.
use mathlib.Core.Path.{◌≡◌, refl, ◌∙◌}
use mathlib.Core.Bool.{◌&&◌}
use lib.Dec.{eqb}
use borrow.Author.Tests.{le-leb, lt-leb}
use Rattle.booking.specs.NewNodes.{next_node}
use Rattle.booking.proofs.new_nodes.NewNodes.next.Goals as goal
use Rattle.booking.proofs.new_nodes.NewNodes.next.Goals.{else-site, then-site}

pub returns-after-site : goal.returns-after-site
unfolding next_node
returns-after-site c =
    let s = c.args in
    let first : c.if-site.site_node ≡ (s.site.alone && eqb s.self.count 0) =
    elim c.if-site.branch [ then-site w ↦ w.site_node-is ∙ rw w.if-site.true refl | else-site w ↦ w.site_node-is ∙ rw w.if-site.false refl ]
    in
    rw c.site_node.ensures (simp (first, le-leb _ _ c.if-count-parent.true))

pub returns-else-count-parent : goal.returns-else-count-parent
unfolding next_node
returns-else-count-parent c =
    c.site_node-else-count-parent.ensures ∙ simp (c.deeper.ensures, lt-leb _ _ c.if-count-parent.false)
