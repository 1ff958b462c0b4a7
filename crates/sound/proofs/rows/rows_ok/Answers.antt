-- The rows that the loop has passed are linked, filled and marked.
use mathlib.Core.Path.{◌≡◌, sym, ap, ◌∙◌}
use native.Mathlib.Omega.{arith}
use Rattle.lists.specs.Lists.{limit}
use Rattle.lists.proofs.Scan.{every-none, every_more, every-fails}
use Rattle.sound.specs.Rows.{row_b, rows_b}
use Rattle.sound.specs.Hung.{hang_row}
use Rattle.sound.proofs.Marks.{hang-none, hang-next}
use Rattle.sound.proofs.rows.rows_ok.Goals as goal

pub loop-q-init : goal.loop-q-init
loop-q-init c =
    record { linked = every-none (row_b limit c.args.settings c.args.nodes); marked = sym (hang-none limit c.args.nodes c.args.hung.now) }

pub returns-then-not-row_ok-clause-says : goal.returns-then-not-row_ok-clause-says
unfolding rows_b
returns-then-not-row_ok-clause-says c =
    let q = c.loop-q.q in
    let f = row_b limit c.args.settings c.args.nodes in
    sym (every-fails f limit q (omega arith) (sym c.row_ok.ensures.says ∙ c.if-not-row_ok.true))

pub loop-q-preserved : goal.loop-q-preserved
loop-q-preserved c =
    let l = c.loop-q in
    let t = c.args.nodes in
    let passed = c.if-not-row_ok.false in
    record {
      linked = every_more (row_b limit c.args.settings t) l.q l.invariant.linked (sym c.row_ok.ensures.says ∙ passed);
      marked = c.row_ok.ensures.marked passed ∙ ap (hang_row limit t l.q) l.invariant.marked ∙ sym (hang-next limit t l.q c.args.hung.now);
    }

pub returns-clause-says : goal.returns-clause-says
unfolding rows_b
returns-clause-says c =
    let full : c.loop-q.q ≡ limit = omega arith in
    sym (rw full at c.loop-q.invariant.linked)
