-- What the rest of a walk says and marks is what the whole row says and marks. A step is below 2^33, so the sum of the steps fits.
use mathlib.Core.Path.{◌≡◌, refl, sym, ◌∙◌}
use mathlib.Core.Logic.{inl}
use Prim.Native.Nat.{◌+◌, ◌-◌}
use native.Mathlib.Omega.{arith}
use Rattle.lists.specs.Lists.{limit}
use Rattle.sound.proofs.Marks.{hang-on, hang-over, hang-here}
use Rattle.sound.proofs.Walk.{chain-on, chain-bad, chain-ends, chain-out, row_is}
use Rattle.sound.proofs.rows.row_ok.Goals as goal

pub returns-then-p-ge-NONE-clause-says : goal.returns-then-p-ge-NONE-clause-says
returns-then-p-ge-NONE-clause-says c =
    let l = c.loop-step in
    let a = c.args in
    let t = a.nodes.now in
    c.ends_ok.ensures
    ∙ sym (chain-ends limit a.settings t a.q (limit - l._step) l.pv l.p l.sum (omega arith) c.if-p-ge-NONE.true)
    ∙ l.invariant.linked
    ∙ sym (row_is limit a.settings t a.q c.is_parent.ensures c.if-not-is_parent.false refl)

pub returns-then-p-ge-NONE-clause-marked : goal.returns-then-p-ge-NONE-clause-marked
returns-then-p-ge-NONE-clause-marked c =
    let l = c.loop-step in
    let t = c.args.nodes.now in
    λ e.
    sym (hang-over limit t (limit - l._step) l.p l.hung (inl c.if-p-ge-NONE.true))
    ∙ l.invariant.marked
    ∙ sym (hang-here limit t c.args.q c.args.hung.now c.is_parent.ensures c.if-not-is_parent.false)

pub returns-then-not-child_ok-clause-says : goal.returns-then-not-child_ok-clause-says
returns-then-not-child_ok-clause-says c =
    let l = c.loop-step in
    let a = c.args in
    let t = a.nodes.now in
    let bad = chain-bad limit a.settings t a.q (limit - l._step) l.pv l.p l.sum c.if-p-ge-NONE.false c.child_ok.ensures c.if-not-child_ok.true in
    sym (row_is limit a.settings t a.q c.is_parent.ensures c.if-not-is_parent.false (sym l.invariant.linked ∙ bad))

pub loop-step-preserved : goal.loop-step-preserved
loop-step-preserved c =
    let l = c.loop-step in
    let a = c.args in
    let t = a.nodes.now in
    let left = limit - l._step in
    let less : limit - (l._step + 1) ≡ left - 1 = omega arith in
    let in_row = c.if-p-ge-NONE.false in
    let on = chain-on limit a.settings t a.q left l.pv l.p l.sum (omega arith) in_row c.child_ok.ensures c.if-not-child_ok.false in
    record {
      small = omega (arith, c.step_of-sum.ensures.below);
      linked = rw (less, c.step_of-sum.ensures.says) (sym on ∙ l.invariant.linked);
      marked = rw less (sym (hang-on limit t left l.p l.hung (omega arith) in_row) ∙ l.invariant.marked);
    }

pub returns-clause-says : goal.returns-clause-says
returns-clause-says c =
    let l = c.loop-step in
    let a = c.args in
    let t = a.nodes.now in
    let out = chain-out limit a.settings t a.q (limit - l._step) l.pv l.p l.sum (omega arith) in
    sym (row_is limit a.settings t a.q c.is_parent.ensures c.if-not-is_parent.false (sym l.invariant.linked ∙ out))
