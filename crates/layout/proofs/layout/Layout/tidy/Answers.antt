-- `tidy` meets its contract. The loop's invariant: from the layout that came so many structures were taken out, and `left` is what is left. The measure is how
-- many structures of that have no part inside.
use mathlib.Core.Path.{◌≡◌, sym, ◌∙◌}
use mathlib.Core.Bool.{true}
use native.Mathlib.Omega.{arith}
use Rattle.tree.specs.Tidy.{Lowest}
use Rattle.layout.specs.Check.{tree, sound_b}
use Rattle.layout.proofs.Typed.{typed-sized}
use Rattle.layout.proofs.Exactly.{sound-says}
use Rattle.layout.proofs.TidyEnds.{emptyable, finds, finds-none, none-taken, one_less, one_more, some_left, unsound-so, spent-so, done-so}
use Rattle.layout.proofs.layout.Layout.tidy.Goals as goal
use Rattle.layout.proofs.layout.Layout.tidy.Goals.{Else-place-ge-NONE, Else-not-sound}

-- past the first test
checked : (c : Else-not-sound) → sound_b c.args.self ≡ true
checked c = sym c.sound.ensures ∙ c.if-not-sound.false

-- a structure was found
found : (c : Else-place-ge-NONE) → Lowest c.lowest_untidy-place.result (tree c.loop-self.left)
found c =
    let l = c.loop-self in
    let e = c.lowest_untidy-place.ensures in
    rw e (finds l.left l.invariant.sound (omega (arith, e, c.if-place-ge-NONE.false)))

pub returns-then-not-sound : goal.returns-then-not-sound
returns-then-not-sound c =
    unsound-so c.args.self (sym c.sound.ensures ∙ c.if-not-sound.true) c.refused_tidy.ensures

pub loop-self-init : goal.loop-self-init
loop-self-init c =
    let sized = typed-sized c.args.self _ c.well_formed.0 in
    none-taken c.args.self (sound-says c.args.self sized (checked c)) sized

pub returns-then-place-ge-NONE : goal.returns-then-place-ge-NONE
returns-then-place-ge-NONE c =
    let l = c.loop-self in
    done-so c.args.self (checked c.before.before.before.before) l.count l.left l.invariant
    (finds-none l.left l.invariant.sound (omega (arith, c.lowest_untidy-place.ensures, c.if-place-ge-NONE.true)))

pub returns-then-left-ge-MAX_SERIAL : goal.returns-then-left-ge-MAX_SERIAL
returns-then-left-ge-MAX_SERIAL c =
    let l = c.loop-self in
    let self = c.args.self in
    spent-so self (checked c.before.before.before.before.before.before) l.count l.left l.invariant
    (some_left self l.count l.left l.invariant _ (found c.before.before)) (omega (arith, c.if-left-ge-MAX_SERIAL.true)) c.refused_tidy-then-left-ge-MAX_SERIAL.ensures

pub emptied-gone-requires : goal.emptied-gone-requires
emptied-gone-requires c =
    let l = c.loop-self in
    emptyable l.left l.invariant.sound c.lowest_untidy-place.result (found c.before).untidy l.invariant.sized (omega (arith, c.if-left-ge-MAX_SERIAL.false))

pub overflow_add-count : goal.overflow_add-count
overflow_add-count c =
    omega (arith, c.loop-self.invariant.few)

pub loop-self-smaller : goal.loop-self-smaller
loop-self-smaller c =
    let l = c.loop-self in
    omega (arith, one_less l.left l.invariant.sound c.lowest_untidy-place.result (found c.before.before.before).untidy c.emptied-gone.result c.emptied-gone.ensures)

pub loop-self-preserved : goal.loop-self-preserved
loop-self-preserved c =
    let l = c.loop-self in
    one_more c.args.self l.count l.left l.invariant c.lowest_untidy-place.result (found c.before.before.before) c.emptied-gone.result
    c.emptied-gone.ensures
