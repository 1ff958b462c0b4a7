-- `taken_out` meets its contract: the buffer is too short, or the numbers along what goes are written and the piece is taken out.
use mathlib.Core.Path.{◌≡◌, refl, ap, ◌∙◌}
use native.Mathlib.Omega.{arith}
use lib.ListN.{length}
use lib.Seq.{sets}
use Rattle.layout.specs.declared.layout.Layout.{Layout}
use Rattle.removal.specs.declared.going.Going.{Going}
use Rattle.removal.specs.Going.{places, going_of}
use Rattle.walks.specs.Inner.{Placed}
use Rattle.layout.specs.Inner.{Takeable}
use Prim.Native.Nat.{ℕ}
use Rattle.lists.specs.Lists.{limit}
use Rattle.layout.specs.Inner.{Leaving}
use Rattle.layout.proofs.TakenOut.{goable, numbers-going}
use Rattle.layout.proofs.RemoveEnds.{too_short, long-enough}
use Rattle.layout.proofs.layout.Layout.taken_out.Goals as goal

pub going_with-g-requires : goal.going_with-g-requires
going_with-g-requires c = goable c.args.self c.args.place c.requires

-- what goes is what `going_with` gives
leaving : {l : Layout} {p : ℕ} {g : Going} → Takeable l p → places g ≡ going_of l.nodes p l.held → g.count ≡ length (going_of l.nodes p l.held)
    → Placed limit g.count g.order → Leaving l p g
leaving {l = l} {p = p} t e n q = record { places = e; room = omega (arith, n, (goable l p t).3); placed = q }

pub count_numbers-count-requires : goal.count_numbers-count-requires
count_numbers-count-requires c = let g = leaving c.requires c.going_with-g.ensures.entries c.going_with-g.ensures.counted c.going_with-g.ensures.placed in (g.room, g.placed)

pub returns-then-out-count : goal.returns-then-out-count
returns-then-out-count c =
    let a = c.args in
    rw (too_short a.self a.place (length a.out.now) (omega (arith, (c.count_numbers-count.ensures ∙ ap length (numbers-going c.args.self c.args.place c.requires c.going_with-g.ensures.entries)), c.if-out-count.true)))
    (record { says = c.refused_remove.ensures; written = refl })

pub put_numbers-requires : goal.put_numbers-requires
put_numbers-requires c =
    let g = leaving c.requires c.going_with-g.ensures.entries c.going_with-g.ensures.counted c.going_with-g.ensures.placed in
    (g.room, omega (arith, c.count_numbers-count.ensures, c.if-out-count.false), g.placed)

pub without-requires : goal.without-requires
without-requires c =
    (c.requires, leaving c.requires c.going_with-g.ensures.entries c.going_with-g.ensures.counted c.going_with-g.ensures.placed, (c.count_numbers-count.ensures ∙ ap length (numbers-going c.args.self c.args.place c.requires c.going_with-g.ensures.entries)))

pub returns : goal.returns
returns c =
    let a = c.args in
    rw (long-enough a.self a.place (length a.out.now) (omega (arith, (c.count_numbers-count.ensures ∙ ap length (numbers-going c.args.self c.args.place c.requires c.going_with-g.ensures.entries)), c.if-out-count.false)))
    (record { says = c.without.ensures; written = c.put_numbers.ensures.written ∙ ap (sets a.out.now 0) (numbers-going a.self a.place c.requires c.going_with-g.ensures.entries) })
