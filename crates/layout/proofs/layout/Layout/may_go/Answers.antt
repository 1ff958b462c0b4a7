-- `may_go` meets its contract: each way out is one outcome of the tests of `go_no`.
use mathlib.Core.Path.{sym, ◌∙◌}
use Prim.Native.Nat.{◌+◌, ◌≤◌, ◌<◌}
use native.Mathlib.Omega.{arith}
use borrow.Author.Tests.{eq-eqb, ne_eqb, le-leb, lt-leb}
use Rattle.layout.specs.Check.{max_serial}
use Rattle.layout.specs.Remove.{go_no}
use Rattle.layout.proofs.layout.Layout.may_go.Goals as goal

pub returns-then-place-eq0 : goal.returns-then-place-eq0
unfolding go_no
returns-then-place-eq0 c = rw (eq-eqb _ 0 c.if-place-eq0.true)

pub returns-then-is_free : goal.returns-then-is_free
unfolding go_no
returns-then-is_free c = rw (ne_eqb _ 0 c.if-place-eq0.false, sym c.is_free.ensures ∙ c.if-is_free.true)

pub returns-then-self-ge-MAX_SERIAL : goal.returns-then-self-ge-MAX_SERIAL
unfolding go_no
returns-then-self-ge-MAX_SERIAL c =
    let a = c.args in
    let spent : max_serial < a.self.serial + 1 = omega (arith, c.if-self-ge-MAX_SERIAL.true) in
    rw (ne_eqb _ 0 c.if-place-eq0.false, sym c.is_free.ensures ∙ c.if-is_free.false, lt-leb _ _ spent)

pub returns : goal.returns
unfolding go_no
returns c =
    let a = c.args in
    let left : a.self.serial + 1 ≤ max_serial = omega (arith, c.if-self-ge-MAX_SERIAL.false) in
    rw (ne_eqb _ 0 c.if-place-eq0.false, sym c.is_free.ensures ∙ c.if-is_free.false, le-leb _ _ left)
