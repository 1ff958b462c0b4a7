-- `lists::flags::flags_of` meets its contract: the entries that were passed are places and differ, and their flags stand alone. Assumes nothing.
use mathlib.Core.Path.{◌≡◌, ap, ◌∙◌}
use mathlib.Core.List.{List}
use mathlib.Core.Bool.{false}
use Prim.Native.Nat.{ℕ, ◌-◌}
use native.Mathlib.Omega.{arith}
use lib.ListN.{get_or}
use lib.Seq.{get_or-take}
use Rattle.lists.specs.Lists.{limit}
use Rattle.lists.specs.Flags.{new_at}
use Rattle.lists.proofs.Scan.{every-none, every_more}
use Rattle.lists.proofs.Named.{flagged-none, flagged-more, flag-stands, flag-missing, past_bound}
use Rattle.lists.proofs.Named.{too_long, not_new, all_new, flags-all, refused, accepted}
use Rattle.lists.proofs.flags.flags_of.Goals as goal
use Rattle.lists.proofs.flags.flags_of.Goals.{After-wide-p, then-p-ge-LIMIT-via-then-p-ge-LIMIT, then-p-ge-LIMIT-via-else-p-ge-LIMIT+then-flag-p-eq1}

pub returns-in_err-place-items : goal.returns-in_err-place-items
returns-in_err-place-items c =
    let a = c.args in
    let i = c.in_err-place-items.ensures.lookup in
    c.from_residual.ensures ∙ refused a.list.now a.count (too_long limit a.list.now a.count (omega arith))

pub loop-place-init : goal.loop-place-init
loop-place-init c =
    let t = c.args.list.now in
    (every-none (new_at limit t), flagged-none limit t)

-- the place at hand is the entry
entry : (c : After-wide-p) → c.wide-p.result ≡ get_or c.args.list.now c.loop-place.place-index 0
entry c =
    let a = c.args in
    let i = c.in_ok-place-items.ensures.lookup.0 in
    c.wide-p.ensures
    ∙ ap (λ (l : List ℕ). get_or l c.loop-place.place-index 0) i.2
    ∙ get_or-take (a.count - 0) a.list.now c.loop-place.place-index 0 (omega arith)

pub returns-then-p-ge-LIMIT : goal.returns-then-p-ge-LIMIT
returns-then-p-ge-LIMIT c =
    let a = c.args in
    let l = c.loop-place in
    let t = a.list.now in
    let i = c.in_ok-place-items.ensures.lookup.0 in
    let e = entry (goal.at.returns-then-p-ge-LIMIT c).After-wide-p in
    let old : new_at limit t l.place-index ≡ false =
    elim c.then-p-ge-LIMIT.branch [ then-p-ge-LIMIT-via-then-p-ge-LIMIT w ↦ past_bound limit t l.place-index (rw e at w.if-p-ge-LIMIT.true) | then-p-ge-LIMIT-via-else-p-ge-LIMIT+then-flag-p-eq1 w ↦ flag-stands limit t l.flag l.place-index l.invariant.1 (rw e at w.if-p-ge-LIMIT.false) (rw e at w.if-flag-p-eq1.true) ]
    in
    refused t a.count (not_new limit t a.count l.place-index (omega arith) old)

pub loop-place-preserved : goal.loop-place-preserved
loop-place-preserved c =
    let l = c.loop-place in
    let t = c.args.list.now in
    let e = entry (goal.at.loop-place-preserved c).After-wide-p in
    let h = rw e at c.if-p-ge-LIMIT.false in
    let n = flag-missing limit t l.flag l.place-index l.invariant.1 h (rw e at c.if-flag-p-eq1.false) in (
      every_more (new_at limit t) l.place-index l.invariant.0 n,
      rw e (flagged-more limit t l.flag l.place-index l.invariant.1 h),
    )

pub returns : goal.returns
returns c =
    let l = c.loop-place in
    let a = c.args in
    let t = a.list.now in
    let i = c.in_ok-place-items.ensures.lookup.0 in
    let n : l.place-index ≡ a.count = omega arith in
    let ok = all_new limit t a.count (omega arith) (rw n at l.invariant.0) in
    accepted t a.count ok (flags-all limit t l.flag a.count ok (rw n at l.invariant.1))
