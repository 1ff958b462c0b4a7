-- `read::length_of` meets its contract. Assumes nothing.
use Rattle.std.proofs.Common.{ne_eqb}
use borrow.Author.Tests.{ne_eqb}
use borrow.Author.Rules.{rules}
use mathlib.Core.Path.{◌≡◌}
use Rattle.frames.specs.Requests.{form_of, length_of}
use Rattle.frames.proofs.read.length_of.Goals as goal

pub returns-in-1 : goal.returns-in-1
unfolding form_of length_of
returns-in-1 c = rw c.in-1.is

pub returns-in-2 : goal.returns-in-2
unfolding form_of length_of
returns-in-2 c = rw c.in-2.is

pub returns-in-3 : goal.returns-in-3
unfolding form_of length_of
returns-in-3 c = rw c.in-3.is

pub returns-in-4 : goal.returns-in-4
unfolding form_of length_of
returns-in-4 c = rw c.in-4.is

pub returns-in_default : goal.returns-in_default
unfolding form_of length_of
returns-in_default c =
    let n1 : c.args.op ≡ 1 → ⊥ = search rules in
    let n2 : c.args.op ≡ 2 → ⊥ = search rules in
    let n3 : c.args.op ≡ 3 → ⊥ = search rules in
    let n4 : c.args.op ≡ 4 → ⊥ = search rules in
    simp (ne_eqb _ _ n1, ne_eqb _ _ n2, ne_eqb _ _ n3, ne_eqb _ _ n4)
