-- `read::asked_by` meets its contract. Assumes nothing.
use mathlib.Core.Path.{◌≡◌}
use borrow.Author.Rules.{rules}
use borrow.Author.Tests.{ne_eqb}
use Rattle.desk_frames.specs.Requests.{question_form, read_why_not, read_light, desk_asked_by}
use Rattle.desk_frames.proofs.read.asked_by.Goals as goal

pub returns-in-17 : goal.returns-in-17
unfolding desk_asked_by question_form read_why_not read_light
returns-in-17 c = rw (c.in-17.is, c.why_not.ensures)

pub returns-in-18 : goal.returns-in-18
unfolding desk_asked_by question_form read_why_not read_light
returns-in-18 c = rw (c.in-18.is, c.light.ensures)

pub returns-in-19 : goal.returns-in-19
unfolding desk_asked_by question_form read_why_not read_light
returns-in-19 c = rw (c.in-19.is, c.two_at.ensures)

pub returns-in-20 : goal.returns-in-20
unfolding desk_asked_by question_form read_why_not read_light
returns-in-20 c = rw (c.in-20.is, c.two_at-in-20.ensures)

pub returns-in-21 : goal.returns-in-21
unfolding desk_asked_by question_form read_why_not read_light
returns-in-21 c = rw c.in-21.is

pub returns-in-22 : goal.returns-in-22
unfolding desk_asked_by question_form read_why_not read_light
returns-in-22 c = rw c.in-22.is

pub returns-in-23 : goal.returns-in-23
unfolding desk_asked_by question_form read_why_not read_light
returns-in-23 c = rw c.in-23.is

pub returns-in-24 : goal.returns-in-24
unfolding desk_asked_by question_form read_why_not read_light
returns-in-24 c = rw c.in-24.is

pub returns-in-25 : goal.returns-in-25
unfolding desk_asked_by question_form read_why_not read_light
returns-in-25 c = rw c.in-25.is

pub returns-in-26 : goal.returns-in-26
unfolding desk_asked_by question_form read_why_not read_light
returns-in-26 c = rw c.in-26.is

pub returns-in-27 : goal.returns-in-27
unfolding desk_asked_by question_form read_why_not read_light
returns-in-27 c = rw c.in-27.is

pub returns-in_default : goal.returns-in_default
unfolding desk_asked_by question_form read_why_not read_light
returns-in_default c =
    let n17 : c.args.op ≡ 17 → ⊥ = search rules in
    let n18 : c.args.op ≡ 18 → ⊥ = search rules in
    let n19 : c.args.op ≡ 19 → ⊥ = search rules in
    let n20 : c.args.op ≡ 20 → ⊥ = search rules in
    let n21 : c.args.op ≡ 21 → ⊥ = search rules in
    let n22 : c.args.op ≡ 22 → ⊥ = search rules in
    let n23 : c.args.op ≡ 23 → ⊥ = search rules in
    let n24 : c.args.op ≡ 24 → ⊥ = search rules in
    let n25 : c.args.op ≡ 25 → ⊥ = search rules in
    let n26 : c.args.op ≡ 26 → ⊥ = search rules in
    let n27 : c.args.op ≡ 27 → ⊥ = search rules in
    simp (c.no.ensures, ne_eqb _ _ n17, ne_eqb _ _ n18, ne_eqb _ _ n19, ne_eqb _ _ n20, ne_eqb _ _ n21, ne_eqb _ _ n22, ne_eqb _ _ n23, ne_eqb _ _ n24, ne_eqb _ _ n25, ne_eqb _ _ n26, ne_eqb _ _ n27)
