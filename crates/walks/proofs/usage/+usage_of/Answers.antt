-- `walks::usage::usage_of` meets its contract: by the kind, and else by the sum. UsageSteps has the steps. Assumes nothing.
use mathlib.Core.Path.{◌≡◌, refl, sym, ap, ◌∙◌}
use mathlib.Core.List.{List, []}
use Prim.Native.Nat.{ℕ, ◌+◌, ◌-◌, ◌<◌}
use native.Mathlib.Omega.{arith}
use lib.Dec.{T}
use lib.IntN.{pos}
use lib.Ieee.{Float, binary64, add, mul, div, in_float}
use Rattle.piece.specs.Numbers.{kind_no}
use Rattle.tree.specs.Figures.{nought, whole}
use Rattle.lists.specs.Lists.{limit}
use Rattle.table.specs.declared.Node.{Node}
use Rattle.table.specs.Table.{at}
use Rattle.table.specs.Columns.{first_of, next_of, kind_no_of, area_of, firsts_of, nexts_of, kinds_of, areas_of}
use Rattle.walks.specs.Chain.{siblings}
use Rattle.walks.specs.Usage.{weight}
use Rattle.walks.specs.Inner.{Small}
use Rattle.walks.specs.Columns.{usage_in}
use Rattle.walks.proofs.Chain.{siblings-over, siblings-zero}
use Rattle.walks.proofs.OfNodes.{column}
use Rattle.walks.proofs.UsageSteps.{in-float, sum, sum_more, usage-none, usage-free, usage-part, usage-more}
use Rattle.walks.proofs.usage.+usage_of.Goals as goal
use Rattle.walks.proofs.usage.+usage_of.Goals.{else-loop-turn-test, then-loop-turn-test+then-c-ge-NONE}

-- the area of a node, as an f64
weighs : (t : List Node) (p a : ℕ) → a ≡ area_of (at t p) → Small (areas_of t) → T (in_float binary64 (pos a))
weighs t p a e h = in-float a (let below = h p in rw e (omega (arith, below, column area_of t p)))

pub returns-then-left-eq0 : goal.returns-then-left-eq0
returns-then-left-eq0 t c = let none = c.if-left-eq0.true in rw usage-none

pub returns-in-Free : goal.returns-in-Free
returns-in-Free t c =
    let n = c.args.nodes.now in
    sym (usage-free limit (firsts_of n) (nexts_of n) (kinds_of n) (areas_of n) c.args.left c.args.x c.if-left-eq0.false (column kind_no_of n c.args.x ∙ ap kind_no c.in-Free.is))

pub returns-in-Part : goal.returns-in-Part
returns-in-Part t c =
    let n = c.args.nodes.now in
    sym (usage-part limit (firsts_of n) (nexts_of n) (kinds_of n) (areas_of n) c.args.left c.args.x c.if-left-eq0.false (column kind_no_of n c.args.x ∙ ap kind_no c.in-Part.is))

pub loop-turn-init : goal.loop-turn-init
loop-turn-init t c = refl

pub int_to_float-sum : goal.int_to_float-sum
int_to_float-sum t c = weighs c.args.nodes.now c.loop-turn.c _ c.area.ensures c.requires.1

pub int_to_float-result : goal.int_to_float-result
int_to_float-result t c = weighs c.args.nodes.now c.args.x _ c.area-in-Structure.ensures c.requires.1

-- a turn: the child at c, of the area a and the usage u, is added
turned : (t : List Node) (left turn c a : ℕ) (s u : Float) → turn < left → c < limit → a ≡ area_of (at t c) → u ≡ usage_in limit t (left - 1) c
    → sum limit (firsts_of t) (nexts_of t) (kinds_of t) (areas_of t) left (left - (turn + 1)) (at t c).next (add binary64 s (mul binary64 (whole a) u))
    ≡ sum limit (firsts_of t) (nexts_of t) (kinds_of t) (areas_of t) left (left - turn) c s
turned t left turn c a s u more held e f =
    let n : left - (turn + 1) ≡ (left - turn) - 1 = omega arith in
    rw (n, ← column next_of t c, e ∙ sym (column area_of t c))
    (sum_more limit (firsts_of t) (nexts_of t) (kinds_of t) (areas_of t) left (left - turn) c s u (omega arith) held f)

pub loop-turn-preserved : goal.loop-turn-preserved
loop-turn-preserved t c =
    let l = c.loop-turn in
    turned c.args.nodes.now c.args.left l._turn l.c c.area.result l.sum _ c.loop-turn-test.true c.if-c-ge-NONE.false c.area.ensures c.usage_of-u.ensures
    ∙ l.invariant

-- after the last child the sum is the whole one
summed-up : (t : List Node) (left turns x c a : ℕ) (s : Float) → (left ≡ 0 → ⊥) → kind_no_of (at t x) ≡ 2 → a ≡ area_of (at t x) → siblings limit (nexts_of t) turns c ≡ []
    → sum limit (firsts_of t) (nexts_of t) (kinds_of t) (areas_of t) left turns c s
    ≡ sum limit (firsts_of t) (nexts_of t) (kinds_of t) (areas_of t) left (left - 1) (at t x).first nought
    → div binary64 s (whole a) ≡ usage_in limit t left x
summed-up t left turns x c a s some is e none inv =
    let k = column kind_no_of t x ∙ is in
    rw (usage-more limit (firsts_of t) (nexts_of t) (kinds_of t) (areas_of t) left x some (λ z. omega (arith, k)) (λ z. omega (arith, k)), e ∙ sym (column area_of t x), column first_of t x)
    (ap (λ (u : Float). div binary64 u (weight (areas_of t) x)) (rw none at inv))

pub returns-after-loop-turn : goal.returns-after-loop-turn
returns-after-loop-turn t c =
    let n = c.args.nodes.now in
    let l = c.loop-turn in
    let none : siblings limit (nexts_of n) (c.args.left - l._turn) l.c ≡ [] =
    elim c.loop-turn-test.branch [ else-loop-turn-test w ↦ siblings-zero limit (nexts_of n) l.c (c.args.left - l._turn) (omega arith) | then-loop-turn-test+then-c-ge-NONE w ↦ siblings-over limit (nexts_of n) l.c (c.args.left - l._turn) w.if-c-ge-NONE.true ] in
    summed-up n c.args.left (c.args.left - l._turn) c.args.x l.c _ l.sum c.if-left-eq0.false (ap kind_no c.in-Structure.is) c.area-in-Structure.ensures none l.invariant
