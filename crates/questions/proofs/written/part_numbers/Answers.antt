-- `part_numbers` meets its contract: refused, too short, or written along every place.
use mathlib.Core.Path.{◌≡◌, ap, ◌∙◌}
use mathlib.Core.Bool.{true}
use native.Mathlib.Omega.{arith}
use lib.ListN.{length}
use lib.Seq.{sets}
use Rattle.std.specs.Prelude.{Err}
use Rattle.std.proofs.lemmas.Result.{err_from_is_err_and}
use Rattle.layout.specs.Check.{sound_b}
use Rattle.layout.specs.SoundLayout.{SoundLayout}
use Rattle.layout.proofs.Examined.{passed, stopped}
use Rattle.layout.proofs.Exactly.{sound-says}
use Rattle.layout.proofs.Typed.{typed-sized}
use Rattle.questions.specs.Written.{held_numbers}
use Rattle.questions.proofs.Lent.{not_sound, too_short, done, every-placed, numbers-are, numbers-room}
use Rattle.questions.proofs.written.part_numbers.Goals as goal
use Rattle.questions.proofs.written.part_numbers.Goals.{After-count_numbers-count, In_ok-examined}

-- past the first test
checked : (c : In_ok-examined) → sound_b c.args.layout ≡ true
checked c = passed c.args.layout c.in_ok-examined.ensures

stands : (c : In_ok-examined) → SoundLayout c.args.layout
stands c = sound-says c.args.layout (typed-sized c.args.layout _ c.well_formed.0) (checked c)

pub returns-in_err-examined : goal.returns-in_err-examined
returns-in_err-examined c =
    let a = c.args in let gives = not_sound a.layout (held_numbers a.layout) a.out.now (stopped a.layout c.in_err-examined.ensures).0 in
    let p = err_from_is_err_and c.from_residual.result c.from_residual.ensures.1 in
    record { answer = p.1 ∙ ap Err (p.2 ∙ (stopped a.layout c.in_err-examined.ensures).1) ∙ gives.0; written = gives.1 }

pub count_numbers-count-requires : goal.count_numbers-count-requires
count_numbers-count-requires c = (omega arith, every-placed c.every_place-order.ensures)

-- the count is the length of what is to be written
count-is : (c : After-count_numbers-count)
    → c.count_numbers-count.result ≡ length (held_numbers c.args.layout)
count-is c =
    let a = c.args in
    c.count_numbers-count.ensures ∙ ap length (numbers-are c.every_place-order.ensures a.layout)

pub returns-then-out-count : goal.returns-then-out-count
returns-then-out-count c =
    let a = c.args in let gives = too_short a.layout (held_numbers a.layout) a.out.now (checked (goal.at.returns-then-out-count c).In_ok-examined)
    (omega (arith, count-is (goal.at.returns-then-out-count c).After-count_numbers-count, c.if-out-count.true)) in record { answer = gives.0; written = gives.1 }

pub put_numbers-requires : goal.put_numbers-requires
put_numbers-requires c = (
  omega arith,
  omega (arith, c.count_numbers-count.ensures, c.if-out-count.false),
  every-placed c.every_place-order.ensures,
)

pub overflow_cast-result : goal.overflow_cast-result
overflow_cast-result c =
    omega (arith, count-is (goal.at.overflow_cast-result c).After-count_numbers-count, numbers-room c.args.layout (stands (goal.at.overflow_cast-result c).In_ok-examined))

pub returns : goal.returns
returns c =
    let a = c.args in
    let n = count-is (goal.at.returns c).After-count_numbers-count in let gives = done a.layout (held_numbers a.layout) a.out.now (checked (goal.at.returns c).In_ok-examined)
    (omega (arith, n, c.if-out-count.false)) n
    (c.put_numbers.ensures.written
    ∙ ap (sets a.out.now 0) (numbers-are c.every_place-order.ensures a.layout)) in record { answer = gives.0; written = gives.1 }
