-- `lists::serials::chains_of` meets its contract: the places that were passed are in the chains. Assumes nothing.
use native.Mathlib.Omega.{arith}
use Rattle.lists.proofs.Chains.{chaining-none, chaining-more, chaining-all}
use Rattle.lists.proofs.serials.chains_of.Goals as goal

pub loop-i-init : goal.loop-i-init
loop-i-init c = chaining-none c.args.s.now

pub loop-i-preserved : goal.loop-i-preserved
loop-i-preserved c =
    let l = c.loop-i in
    let t = c.args.s.now in
    let h = c.requires l.i (omega arith) in
    chaining-more t l.i l.invariant (omega arith) (omega arith)

pub returns : goal.returns
returns c =
    let l = c.loop-i in
    chaining-all c.args.s.now (omega arith) l.invariant
