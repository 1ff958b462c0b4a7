-- The pass: the columns are written as far as it has come, and the tests and the sums are those of the places passed.
use mathlib.Core.Path.{◌≡◌, refl, sym, ◌∙◌}
use mathlib.Core.Bool.{◌&&◌}
use Prim.Native.Nat.{◌+◌, ◌<◌}
use native.Mathlib.Omega.{arith}
use Rattle.std.proofs.Common.{rules}
use lib.ListN.{length}
use Rattle.lists.specs.Lists.{limit}
use Rattle.lists.specs.Search.{every}
use Rattle.lists.proofs.Fill.{fill_more}
use Rattle.table.specs.Table.{zero_node}
use Rattle.table.specs.Columns.{area_of, serial_of}
use Rattle.sound.specs.Columns.{areas_of, serials_of, kinds_of}
use Rattle.sound.specs.Listed.{area_listed}
use Rattle.sound.proofs.Sums.{held-most}
use Rattle.sound.proofs.Counted.{pass_at, every-next, held_next, area-next}
use Rattle.sound.proofs.Counted.{Going, test-passed, test-failed, part-taken, part-over, counting-none, census-is}
use Rattle.sound.proofs.census.census_ok.Goals as goal
use Rattle.sound.proofs.census.census_ok.Goals.{else-left-part, then-left-part, then-not-node_ok, else-not-node_ok}

pub loop-i-init : goal.loop-i-init
loop-i-init c =
    let a = c.args in
    record { serials = refl; areas = refl; counting = counting-none limit a.nodes a.last a.used a.free.now a.removable.now a.hung.now }

pub overflow_add-count : goal.overflow_add-count
overflow_add-count c =
    let t = c.args.nodes in
    omega (arith, c.loop-i.invariant.counting.counted, held_next t c.loop-i.i, held-most (serials_of t) (c.loop-i.i + 1), c.held_one-count.ensures)

pub loop-i-preserved : goal.loop-i-preserved
loop-i-preserved c =
    let l = c.loop-i in
    let a = c.args in
    let t = a.nodes in
    let len : length t ≡ limit = c.well_formed.0.1.0.1 in
    let h : l.i < limit = omega arith in
    let f = pass_at limit t a.last a.free.now a.removable.now a.hung.now in
    let tests = every f l.i && f l.i in
    let sum = area_listed 1 (kinds_of t) (areas_of t) l.i in
    let is = c.node_ok.ensures in
    let g : Going tests sum a.used c.if-not-node_ok.ok l.left =
    elim c.if-not-node_ok.branch [
      | then-not-node_ok w ↦ rw w.ok-is (test-failed l.invariant.counting.going (sym is ∙ w.if-not-node_ok.true))
      | else-not-node_ok w ↦ rw w.ok-is (test-passed l.invariant.counting.going (sym is ∙ w.if-not-node_ok.false))
    ] in
    let k : Going tests (sum + c.used_by-part.result) a.used c.if-left-part.ok c.if-left-part.left =
    elim c.if-left-part.branch [
      | then-left-part w ↦ rw (w.ok-is, w.left-is) (part-over g w.if-left-part.true)
      | else-left-part w ↦ rw (w.ok-is, w.left-is) (part-taken g w.if-left-part.false)
    ] in
    record {
      serials = fill_more serial_of t len zero_node a.serial.now l.serial l.i _ l.invariant.serials h refl;
      areas = fill_more area_of t len zero_node a.area.now l.area l.i _ l.invariant.areas h c.area.ensures;
      counting = record {
        counted = omega (arith, held_next t l.i, c.held_one-count.ensures, l.invariant.counting.counted);
        going = rw (every-next f l.i, area-next t l.i, ← c.used_by-part.ensures) k;
      };
    }

pub returns-then-count-held-clause-says : goal.returns-then-count-held-clause-says
returns-then-count-held-clause-says c =
    let full : c.loop-i.i ≡ limit = omega arith in
    rw (census-is c.args.held (rw full at c.loop-i.invariant.counting)) (search rules)

pub returns-else-count-held-clause-says : goal.returns-else-count-held-clause-says
returns-else-count-held-clause-says c =
    let full : c.loop-i.i ≡ limit = omega arith in
    rw (census-is c.args.held (rw full at c.loop-i.invariant.counting)) (search rules)
