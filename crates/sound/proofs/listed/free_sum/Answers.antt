-- The sum after so many nodes is `area_listed` of these, and no more than that of all.
use mathlib.Core.Path.{◌≡◌, refl, sym}
use mathlib.Core.Bool.{Bool, cond}
use mathlib.Core.List.{List}
use Prim.Native.Nat.{ℕ, ◌+◌}
use native.Mathlib.Numerals.{add-one}
use native.Mathlib.Omega.{arith}
use lib.Dec.{eqb}
use Rattle.piece.specs.declared.node.Kind.{Kind}
use Rattle.piece.specs.declared.node.Kind.TheVariants.{Free, Part, Structure}
use Rattle.piece.specs.Kinds.{is_free}
use Rattle.piece.specs.Numbers.{kind_no}
use Rattle.piece.specs.Sides.{area}
use Rattle.lists.specs.Lists.{limit}
use Rattle.table.specs.declared.Node.{Node}
use Rattle.table.specs.Table.{at}
use Rattle.table.specs.Columns.{kinds_of, areas_of}
use Rattle.sound.specs.Listed.{area_listed}
use Rattle.sound.proofs.Sums.{area-none, area-grows}
use Rattle.sound.proofs.Worth.{kind_at, area-at}
use Rattle.sound.proofs.listed.free_sum.Goals as goal
use Rattle.sound.proofs.listed.free_sum.Goals.{else-is_free, then-is_free}

free-no : (k : Kind) → eqb (kind_no k) 0 ≡ is_free k
free-no Free = refl
free-no Part = refl
free-no Structure = refl

-- the sum of one node more
next : (t : List Node) (i : ℕ) {b : Bool} → b ≡ is_free (at t i).datum.kind
    → area_listed 0 (kinds_of t) (areas_of t) (i + 1) ≡ area_listed 0 (kinds_of t) (areas_of t) i + cond b (area (at t i).datum.size) 0
unfolding area_listed
next t i e = rw (e, add-one i, kind_at t i, area-at t i, free-no (at t i).datum.kind) refl

pub overflow_add-sum : goal.overflow_add-sum
overflow_add-sum c =
    let l = c.loop-node in
    let t = c.args.nodes.now in
    omega (
      arith,
      c.requires,
      area-grows 0 (kinds_of t) (areas_of t) limit (l.node-index + 1) (omega arith),
      rw c.if-is_free.true at (next t l.node-index c.is_free.ensures),
    )

pub loop-node-preserved : goal.loop-node-preserved
loop-node-preserved c =
    let l = c.loop-node in
    let t = c.args.nodes.now in
    let n = next t l.node-index c.is_free.ensures in
    elim c.if-is_free.branch [ then-is_free w ↦ omega (arith, w.sum-is, w.area-sum.ensures, rw w.if-is_free.true at n) | else-is_free w ↦ omega (arith, w.sum-is, rw w.if-is_free.false at n) ]

pub returns : goal.returns
returns c =
    let full : c.loop-node.node-index ≡ limit = omega arith in
    rw full at c.loop-node.invariant

pub loop-node-init : goal.loop-node-init
loop-node-init c = sym (area-none 0 (kinds_of c.args.nodes.now) (areas_of c.args.nodes.now))
