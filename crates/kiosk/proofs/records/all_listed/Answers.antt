-- `all_listed` meets its contract: every place that was passed is listed. Assumes nothing.
use mathlib.Core.Path.{◌≡◌, sym, ap, ◌∙◌}
use mathlib.Core.Bool.{true, false}
use native.Mathlib.Omega.{arith}
use lib.ListN.{length}
use Rattle.lists.specs.Lists.{limit}
use Rattle.lists.specs.Search.{every}
use Rattle.lists.proofs.Scan.{every-none, every_more, every-fails}
use Rattle.kiosk.specs.Records.{all_listed_b}
use Rattle.kiosk.proofs.records.all_listed.Invariants.{listed_at}
use Rattle.kiosk.proofs.records.all_listed.Goals as goal

pub loop-i-init : goal.loop-i-init
loop-i-init c = every-none (listed_at c.args.records)

pub returns-then-not-listed : goal.returns-then-not-listed
unfolding all_listed_b
returns-then-not-listed c =
    let l = c.loop-i in
    let t = c.args.records in
    let len : length t ≡ limit = c.well_formed.0.1.0.1 in
    let z : listed_at t l.i ≡ false = sym c.listed.ensures ∙ c.if-not-listed.true in
    sym (every-fails (listed_at t) (length t) l.i (omega arith) z)

pub loop-i-preserved : goal.loop-i-preserved
loop-i-preserved c =
    let l = c.loop-i in
    let z : listed_at c.args.records l.i ≡ true = sym c.listed.ensures ∙ c.if-not-listed.false in
    every_more (listed_at c.args.records) l.i l.invariant z

pub returns : goal.returns
unfolding all_listed_b
returns c =
    let l = c.loop-i in
    let t = c.args.records in
    let len : length t ≡ limit = c.well_formed.0.1.0.1 in
    let all : length t ≡ l.i = omega arith in
    sym (ap (every (listed_at t)) all ∙ l.invariant)
