-- `first_offering` meets its contract: a search along the free list, of which lists' `Scan` has the steps. An entry that counts names a place.
use mathlib.Core.Path.{refl, sym, ap, ◌∙◌}
use Prim.Native.Nat.{◌<◌}
use native.Mathlib.Omega.{arith}
use lib.ListN.{get_or}
use borrow.Author.Rules.{rules}
use borrow.Author.Tests.{lt-ltb, le-ltb}
use Rattle.std.specs.Prelude.{Ok, Some}
use Rattle.lists.proofs.Scan.{search-start, search-on, search-found, search-end}
use Rattle.marks.specs.declared.Mark.{Mark}
use Rattle.layout.specs.Check.{limit}
use Rattle.layout.proofs.Ways.{onward, ended}
use Rattle.layout.proofs.Typed.{typed-sized}
use Rattle.questions.specs.Light.{first_offering, light_at, offering_at}
use Rattle.questions.proofs.Entries.{free-low}
use Rattle.questions.proofs.room.first_offering.Goals as goal
use Rattle.questions.proofs.room.first_offering.Goals.{In-loop-i}

-- an entry that counts names a place
low : (c : In-loop-i)
    → (c.loop-i.i < limit) × (get_or c.args.layout.free c.loop-i.i 0 < limit)
low c =
    let placed = free-low c.args.layout (typed-sized c.args.layout _ c.well_formed.0) c.requires in
    (omega (arith, placed.0), placed.1 c.loop-i.i (omega arith))

pub loop-i-init : goal.loop-i-init
loop-i-init c = search-start (offering_at c.args.layout c.args.part) c.args.layout.frees

pub bounds-layout-i : goal.bounds-layout-i
bounds-layout-i c = (low c).0

pub offset_bounds-layout-place : goal.offset_bounds-layout-place
offset_bounds-layout-place c = let h = (low (goal.at.offset_bounds-layout-place c).In-loop-i).1 in search rules

pub bounds-layout-place : goal.bounds-layout-place
bounds-layout-place c = (low (goal.at.bounds-layout-place c).In-loop-i).1

pub mark_of-requires : goal.mark_of-requires
mark_of-requires c = (low (goal.at.mark_of-requires c).In-loop-i).1

pub returns-then-has_offer : goal.returns-then-has_offer
unfolding first_offering
returns-then-has_offer c =
    let l = c.loop-i in
    let a = c.args in
    let found =
    search-found (offering_at a.layout a.part) a.layout.frees l.i l.invariant (omega arith)
    (sym c.has_offer.ensures ∙ c.if-has_offer.true)
    in
    ap (λ (m : Mark). Ok (Some m)) c.mark_of.ensures ∙ onward _ (lt-ltb l.i a.layout.frees (omega arith)) refl ∙ ap (light_at a.layout) found

pub loop-i-preserved : goal.loop-i-preserved
loop-i-preserved c =
    let l = c.loop-i in
    let a = c.args in
    search-on (offering_at a.layout a.part) a.layout.frees l.i l.invariant (omega arith)
    (sym c.has_offer.ensures ∙ c.if-has_offer.false)

pub returns : goal.returns
unfolding first_offering
returns c =
    let l = c.loop-i in
    let a = c.args in
    let past = search-end (offering_at a.layout a.part) a.layout.frees l.i l.invariant (omega arith) in
    ended _ (le-ltb _ a.layout.frees (omega arith)) refl ∙ ap (light_at a.layout) past
