-- `Pending::take` meets its contract, by its three ways out. Assumes nothing.
use mathlib.Core.Path.{◌≡◌, ◌∙◌}
use mathlib.Core.List.{List}
use Prim.Native.Nat.{ℕ}
use native.Mathlib.Omega.{arith}
use Rattle.lines.specs.declared.stream.Pending.{Pending}
use Rattle.lines.specs.Lines.{chars_at, past_at}
use Rattle.lines.specs.Stream.{adds}
use Rattle.lines.proofs.Ahead.{at-past}
use Rattle.lines.proofs.Adds.{Step, took-all, took-long, took-line}
use Rattle.lines.proofs.stream.Pending.take.Goals as goal
use Rattle.lines.proofs.stream.Pending.take.Goals.{After-past-next}

-- what its three calls give
abbrev step : (p : Pending) (chunk : List ℕ) (at : ℕ) {chars : List ℕ} {q : Pending} {n : ℕ}
    → chars ≡ chars_at chunk at → q ≡ adds p chars → n ≡ past_at chunk at → Step
step p chunk at {chars} {q} {n} are made there =
    record { p = p; chunk = chunk; at = at; chars = chars; q = q; n = n; are = are; made = made; there = there }

-- what the reader's two answers say of the chunk
read-here : (c : After-past-next) → (c.line-line.result.now ≡ chars_at c.args.chunk.now c.args.at) × (c.past-next.result.at ≡ past_at c.args.chunk.now c.args.at)
read-here c =
    let n = c.new-reader.ensures in
    (rw (n.0, n.1) at c.line-line.ensures, rw (n.0, n.1) at c.past-next.ensures.1)

pub overflow_sub-next : goal.overflow_sub-next
overflow_sub-next c = let r = (read-here (goal.at.overflow_sub-next c).After-past-next).1 in omega (arith, r, at-past c.args.chunk.now c.args.at)

pub returns-then-next-at : goal.returns-then-next-at
returns-then-next-at c =
    let r = read-here (goal.at.returns-then-next-at c).After-past-next in
    c.step.ensures ∙ took-all (step c.args.self c.args.chunk.now c.args.at r.0 c.some-p.ensures r.1) c.if-next-at.true

pub returns-then-p : goal.returns-then-p
returns-then-p c =
    let r = read-here (goal.at.returns-then-p c).After-past-next in
    c.step-then-p.ensures ∙ took-long (step c.args.self c.args.chunk.now c.args.at r.0 c.some-p.ensures r.1) c.if-next-at.false c.if-p.true

pub returns : goal.returns
returns c =
    let r = read-here (goal.at.returns c).After-past-next in
    c.step-2.ensures ∙ took-line (step c.args.self c.args.chunk.now c.args.at r.0 c.some-p.ensures r.1) c.if-next-at.false c.if-p.false
