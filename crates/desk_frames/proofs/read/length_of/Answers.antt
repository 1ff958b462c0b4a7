-- `read::length_of` meets its contract. Assumes nothing.
use mathlib.Core.Path.{◌≡◌}
use borrow.Author.Rules.{rules}
use borrow.Author.Tests.{ne_eqb}
use Rattle.desk_frames.specs.Requests.{question_form, desk_length_of}
use Rattle.desk_frames.proofs.read.length_of.Goals as goal

pub returns-in-17 : goal.returns-in-17
unfolding question_form desk_length_of
returns-in-17 c = rw c.in-17.is

pub returns-in-18 : goal.returns-in-18
unfolding question_form desk_length_of
returns-in-18 c = rw c.in-18.is

pub returns-in-19 : goal.returns-in-19
unfolding question_form desk_length_of
returns-in-19 c = rw c.in-19.is

pub returns-in-20 : goal.returns-in-20
unfolding question_form desk_length_of
returns-in-20 c = rw c.in-20.is

pub returns-in_default : goal.returns-in_default
unfolding question_form desk_length_of
returns-in_default c =
    let n17 : c.args.op ≡ 17 → ⊥ = search rules in
    let n18 : c.args.op ≡ 18 → ⊥ = search rules in
    let n19 : c.args.op ≡ 19 → ⊥ = search rules in
    let n20 : c.args.op ≡ 20 → ⊥ = search rules in
    simp (ne_eqb _ _ n17, ne_eqb _ _ n18, ne_eqb _ _ n19, ne_eqb _ _ n20)
