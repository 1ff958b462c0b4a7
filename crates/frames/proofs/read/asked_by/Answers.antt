-- `read::asked_by` meets its contract. Assumes nothing.
use Rattle.std.proofs.Common.{rules, ne_eqb}
use borrow.Author.Tests.{ne_eqb}
use borrow.Author.Rules.{rules}
use mathlib.Core.Path.{◌≡◌}
use Rattle.frames.specs.Requests.{form_of, read_open, read_offers, read_insert, read_remove, asked_by}
use Rattle.frames.proofs.read.asked_by.Goals as goal

pub returns-in-1 : goal.returns-in-1
unfolding asked_by form_of read_open read_offers read_insert read_remove
returns-in-1 c = rw (c.in-1.is, c.open.ensures)

pub returns-in-2 : goal.returns-in-2
unfolding asked_by form_of read_open read_offers read_insert read_remove
returns-in-2 c = rw (c.in-2.is, c.offers.ensures)

pub returns-in-3 : goal.returns-in-3
unfolding asked_by form_of read_open read_offers read_insert read_remove
returns-in-3 c = rw (c.in-3.is, c.insert.ensures)

pub returns-in-4 : goal.returns-in-4
unfolding asked_by form_of read_open read_offers read_insert read_remove
returns-in-4 c = rw (c.in-4.is, c.remove.ensures)

pub returns-in-5 : goal.returns-in-5
unfolding asked_by form_of read_open read_offers read_insert read_remove
returns-in-5 c = rw c.in-5.is

pub returns-in-6 : goal.returns-in-6
unfolding asked_by form_of read_open read_offers read_insert read_remove
returns-in-6 c = rw c.in-6.is

pub returns-in-7 : goal.returns-in-7
unfolding asked_by form_of read_open read_offers read_insert read_remove
returns-in-7 c = rw c.in-7.is

pub returns-in_default : goal.returns-in_default
unfolding asked_by form_of read_open read_offers read_insert read_remove
returns-in_default c =
    let n1 : c.args.op ≡ 1 → ⊥ = search rules in
    let n2 : c.args.op ≡ 2 → ⊥ = search rules in
    let n3 : c.args.op ≡ 3 → ⊥ = search rules in
    let n4 : c.args.op ≡ 4 → ⊥ = search rules in
    let n5 : c.args.op ≡ 5 → ⊥ = search rules in
    let n6 : c.args.op ≡ 6 → ⊥ = search rules in
    let n7 : c.args.op ≡ 7 → ⊥ = search rules in
    simp (ne_eqb _ _ n1, ne_eqb _ _ n2, ne_eqb _ _ n3, ne_eqb _ _ n4, ne_eqb _ _ n5, ne_eqb _ _ n6, ne_eqb _ _ n7)
