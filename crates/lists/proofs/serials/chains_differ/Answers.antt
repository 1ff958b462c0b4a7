-- `lists::serials::chains_differ` meets its contract. Outside, the serials of the classes that were passed stand once; inside, so do those of one
-- class from the place on that the walk has come down to. The measure of the walk is the number that it stands at. Assumes nothing.
use mathlib.Core.Path.{◌≡◌, sym, ap, ◌∙◌}
use Prim.Native.Nat.{ℕ, ◌-◌}
use native.Mathlib.Omega.{arith}
use Rattle.lists.specs.Lists.{limit}
use Rattle.lists.specs.Inner.{in_class, last_below}
use Rattle.lists.proofs.Chains.{Leads, last-leads}
use Rattle.lists.proofs.Visits.{done_none, done_more, done_all}
use Rattle.lists.proofs.Visits.{Visited, visited-none, visited-on, visited-zero, visited-more, visited-twice}
use Rattle.lists.proofs.serials.chains_differ.Goals as goal
use Rattle.lists.proofs.serials.chains_differ.Goals.{else-a-ne0, then-a-ne0+else-stamp-r}

pub loop-h-init : goal.loop-h-init
loop-h-init c = done_none c.args.s.now

-- where the walk of a class begins
first-leads : (c : goal.After-wide-c) →
    Leads c.args.s.now c.loop-h.h limit c.wide-c.result
first-leads c =
    let o = c.loop-h in
    let s = c in
    last-leads s.args.s.now o.h limit (c.wide-c.ensures ∙ s.requires.1.heads o.h (omega arith))

pub loop-c-init : goal.loop-c-init
loop-c-init c =
    let o = c.loop-h in
    let l = first-leads c in
    (l.most, visited-on _ o.h l (visited-none _ o.h o.invariant), l.holds)

-- and where it goes on
next-leads : (c : goal.After-wide-c-in-loop-c) →
    let w = c in
    Leads w.args.s.now w.loop-h.h (w.loop-c.c - 1) c.wide-c-in-loop-c.result
next-leads c =
    let w = c in
    let l = w.loop-c in
    let o = w.loop-h in
    let s = w in
    let t = s.args.s.now in
    let p = l.c - 1 in
    let same = ap (λ (k : ℕ). last_below (in_class t k) p) (l.invariant.2 p (omega arith)) in
    last-leads t o.h p (c.wide-c-in-loop-c.ensures ∙ s.requires.1.links p (omega arith) ∙ same)

pub loop-c-smaller : goal.loop-c-smaller
loop-c-smaller c = let l = (next-leads c).most in omega arith

pub loop-c-preserved : goal.loop-c-preserved
loop-c-preserved c =
    let j = c in
    let w = j in
    let l = w.loop-c in
    let o = w.loop-h in
    let t = w.args.s.now in
    let n = next-leads c in
    let p = l.c - 1 in
    let here : Visited t o.h p j.if-a-ne0.stamp =
    elim j.if-a-ne0.branch [ then-a-ne0+else-stamp-r x ↦ rw x.stamp-is (visited-more t o.h p (omega arith) l.invariant.1 (omega arith) (l.invariant.2 p (omega arith)) x.if-a-ne0.true x.if-stamp-r.false) | else-a-ne0 x ↦ rw x.stamp-is (visited-zero t o.h p (omega arith) l.invariant.1 x.if-a-ne0.false) ]
    in
    (omega (arith, n.most), visited-on t o.h n here, n.holds)

pub loop-h-preserved : goal.loop-h-preserved
loop-h-preserved c =
    let l = c.loop-c in
    let o = c.loop-h in
    let t = c.args.s.now in
    let end : l.c ≡ 0 = omega arith in
    done_more t o.h o.invariant (rw end at l.invariant.1)

pub returns : goal.returns
returns c =
    let o = c.loop-h in
    let s = c in
    sym (done_all s.args.s.now s.requires.0 (omega arith) o.invariant)

pub returns-then-stamp-r : goal.returns-then-stamp-r
returns-then-stamp-r c =
    let w = c in
    let l = w.loop-c in
    let o = w.loop-h in
    let t = w.args.s.now in
    let p = l.c - 1 in
    sym (visited-twice t o.h p (omega arith) l.invariant.1 (omega arith) (l.invariant.2 p (omega arith)) c.if-a-ne0.true c.if-stamp-r.true)
