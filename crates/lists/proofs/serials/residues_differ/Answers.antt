-- `lists::serials::residues_differ` meets its contract: no two of the serials that were passed agree, and their flags stand alone. Assumes nothing.
use mathlib.Core.Path.{◌≡◌, sym}
use native.Mathlib.Omega.{arith}
use Rattle.lists.specs.Lists.{limit}
use Rattle.lists.specs.Inner.{unlike_below, residues_differ}
use Rattle.lists.proofs.Scan.{every-none, every_more, every-fails}
use Rattle.lists.proofs.Residues.{passed_none, passed-zero, passed-more, below-zero, below_new, below-flagged}
use Rattle.lists.proofs.serials.residues_differ.Goals as goal
use Rattle.lists.proofs.serials.residues_differ.Goals.{else-a-ne0, then-a-ne0+else-flag-r-eq1}

pub loop-a-init : goal.loop-a-init
loop-a-init c = let t = c.args.s.now in (every-none (unlike_below t), passed_none t)

pub returns-then-flag-r-eq1 : goal.returns-then-flag-r-eq1
unfolding residues_differ
returns-then-flag-r-eq1 c =
    let l = c.loop-a in
    let t = c.args.s.now in
    let b = below-flagged t l.a-index l.invariant.1 c.if-a-ne0.true c.if-flag-r-eq1.true in
    sym (every-fails (unlike_below t) limit l.a-index (omega arith) b)

pub loop-a-preserved : goal.loop-a-preserved
loop-a-preserved c =
    let l = c.loop-a in
    let t = c.args.s.now in
    let more = every_more (unlike_below t) l.a-index l.invariant.0 in
    elim c.if-a-ne0.branch [ then-a-ne0+else-flag-r-eq1 w ↦ (more (below_new t l.a-index l.invariant.1 w.if-flag-r-eq1.false), rw w.flag-is (passed-more t l.a-index l.invariant.1 w.if-a-ne0.true)) | else-a-ne0 w ↦ (more (below-zero t l.a-index l.invariant.1 w.if-a-ne0.false), rw w.flag-is (passed-zero t l.a-index l.invariant.1 w.if-a-ne0.false)) ]

pub returns : goal.returns
unfolding residues_differ
returns c =
    let l = c.loop-a in
    let full : l.a-index ≡ limit = omega arith in
    sym (rw full at l.invariant.0)
