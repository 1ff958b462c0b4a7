-- `sound` meets its contract: `sound-is` says what the answers of the passes make of the tests behind them.
use mathlib.Core.Path.{◌≡◌, refl, sym, ◌∙◌}
use mathlib.Core.Bool.{◌&&◌}
use Rattle.lists.specs.Lists.{limit, zeros}
use Rattle.lists.proofs.Fill.{fill-over}
use Rattle.lists.proofs.Named.{refused-says, accepted-says}
use Rattle.lists.proofs.Scan.{and_left, and_right}
use Rattle.table.specs.Columns.{area_of, serial_of}
use Rattle.sound.proofs.Chain.{pass, stop}
use Rattle.layout.specs.Check.{sound_b}
use Rattle.layout.proofs.Typed.{typed-sized}
use Rattle.layout.proofs.Passes.{rest_b, serials-low, free-refused, removable-refused, sound-is}
use Rattle.layout.proofs.layout.Layout.sound.Goals as goal
use Rattle.layout.proofs.layout.Layout.sound.Goals.{After-frame_ok-framed}

pub returns-in_default : goal.returns-in_default
returns-in_default c =
    let l = c.args.self in
    sym (free-refused l (refused-says l.free l.frees (sym c.in_default.is ∙ c.flags_of.ensures)))

pub returns-in_default-flags_of : goal.returns-in_default-flags_of
returns-in_default-flags_of c =
    let l = c.args.self in
    sym (removable-refused l (refused-says l.removable l.removables (sym c.in_default-flags_of.is ∙ c.flags_of-2.ensures)))

-- where all passes are through
passed :
    (c : After-frame_ok-framed) →
    let l = c.args.self in
    sound_b l
    ≡ (((c.rows_ok-linked.result && c.census_ok-counted.result) && c.frame_ok-framed.result)
    && rest_b l c.census_ok-counted.new.serial c.census_ok-counted.new.area)
passed c =
    let l = c.args.self in
    let len = (typed-sized l _ c.well_formed.0).nodes in
    sound-is l
    c.in-Some.ensures
    c.in-Some-flags_of.ensures
    c.rows_ok-linked.ensures.says
    c.rows_ok-linked.ensures.marked
    c.census_ok-counted.ensures.says
    (c.census_ok-counted.ensures.serials ∙ fill-over serial_of l.nodes len (zeros limit) refl)
    (c.census_ok-counted.ensures.areas ∙ fill-over area_of l.nodes len (zeros limit) refl)
    c.frame_ok-framed.ensures

pub rest_ok-requires : goal.rest_ok-requires
rest_ok-requires c =
    let l = c.args.self in
    let on = c.if-linked-counted.true in
    let both = and_left (c.rows_ok-linked.result && c.census_ok-counted.result) c.frame_ok-framed.result on in
    let n = accepted-says l.free l.frees c.in-Some.ensures in (
      n.0,
      serials-low l _ _ _ c.census_ok-counted.ensures.says
          (c.census_ok-counted.ensures.serials ∙ fill-over serial_of l.nodes (typed-sized l _ c.well_formed.0).nodes (zeros limit) refl)
          c.frame_ok-framed.ensures
          (and_right c.rows_ok-linked.result c.census_ok-counted.result both)
          (and_right (c.rows_ok-linked.result && c.census_ok-counted.result) c.frame_ok-framed.result on),
    )

pub returns-then-linked-counted : goal.returns-then-linked-counted
returns-then-linked-counted c =
    pass c.if-linked-counted.true c.rest_ok.ensures ∙ sym (passed (goal.at.returns-then-linked-counted c).After-frame_ok-framed)

pub returns-else-linked-counted : goal.returns-else-linked-counted
returns-else-linked-counted c =
    c.if-linked-counted.false ∙ stop _ c.if-linked-counted.false ∙ sym (passed (goal.at.returns-else-linked-counted c).After-frame_ok-framed)
