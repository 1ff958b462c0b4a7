-- `amounts` meets its contract: refused, too short, or what the cuts of the list that was made lose, copied. Assumes nothing.
use mathlib.Core.Path.{◌≡◌, ap, ◌∙◌}
use mathlib.Core.Bool.{true}
use native.Mathlib.Omega.{arith}
use lib.ListN.{length}
use lib.Seq.{sets}
use Rattle.std.specs.Prelude.{Err}
use Rattle.std.proofs.lemmas.Result.{err_from_is_err_and}
use Rattle.layout.specs.declared.layout.Layout.{Layout}
use Rattle.layout.specs.Check.{sound_b}
use Rattle.layout.specs.SoundLayout.{SoundLayout}
use Rattle.layout.proofs.Examined.{passed, stopped}
use Rattle.layout.proofs.Exactly.{sound-says}
use Rattle.layout.proofs.Typed.{typed-sized}
use Rattle.questions.proofs.Lent.{not_sound, too_short, done}
use Rattle.saw.specs.Written.{amount_bytes}
use Rattle.saw.proofs.Layouts.{amounts-length}
use Rattle.saw.proofs.Call.{ListMade, list-made}
use Rattle.saw.proofs.cuts.amounts.Goals as goal
use Rattle.saw.proofs.cuts.amounts.Goals.{After-list_of-n, In_ok-examined}

-- the first test
checked : (c : In_ok-examined) → sound_b c.args.layout ≡ true
checked c = passed c.args.layout c.in_ok-examined.ensures

stands : (c : In_ok-examined) → SoundLayout c.args.layout
stands c = sound-says c.args.layout (typed-sized c.args.layout _ c.well_formed.0) (checked c)

abbrev the-layout : After-list_of-n → Layout
the-layout c = c.args.layout

made : (c : After-list_of-n) → ListMade (the-layout c) c.list_of-n.new.list c.list_of-n.result
made c = list-made (the-layout c) (sound-says c.args.layout (typed-sized c.args.layout _ c.well_formed.0) (passed c.args.layout c.in_ok-examined.ensures)) c.list_of-n.ensures.written c.list_of-n.ensures.counted

-- as many bytes as there is to write
bytes-are : (c : After-list_of-n) → c.list_of-n.result ≡ length (amount_bytes (the-layout c))
bytes-are c = omega (arith, c.list_of-n.ensures.counted, amounts-length (the-layout c))

pub returns-in_err-examined : goal.returns-in_err-examined
returns-in_err-examined c =
    let a = c.args in
    let e = not_sound a.layout (amount_bytes a.layout) a.out.now (stopped a.layout c.in_err-examined.ensures).0 in
    let p = err_from_is_err_and c.from_residual.result c.from_residual.ensures.1 in
    record { answer = p.1 ∙ ap Err (p.2 ∙ (stopped a.layout c.in_err-examined.ensures).1) ∙ e.0; written = e.1 }

pub returns-then-out-n : goal.returns-then-out-n
returns-then-out-n c =
    let a = c.args in
    let e = too_short a.layout (amount_bytes a.layout) a.out.now (checked (goal.at.returns-then-out-n c).In_ok-examined) (omega (arith, bytes-are (goal.at.returns-then-out-n c).After-list_of-n, c.if-out-n.true)) in
    record { answer = e.0; written = e.1 }

pub put_tenths-requires : goal.put_tenths-requires
put_tenths-requires c =
    let m = made (goal.at.put_tenths-requires c).After-list_of-n in
    (omega (arith, m.few, m.long), omega (arith, c.if-out-n.false))

pub returns : goal.returns
returns c =
    let a = c.args in
    let e = done a.layout (amount_bytes a.layout) a.out.now (checked (goal.at.returns c).In_ok-examined) (omega (arith, bytes-are (goal.at.returns c).After-list_of-n, c.if-out-n.false)) (bytes-are (goal.at.returns c).After-list_of-n)
    (c.put_tenths.ensures ∙ ap (sets a.out.now 0) (made (goal.at.returns c).After-list_of-n).tenths) in
    record { answer = e.0; written = e.1 }

pub list_of-n-requires : goal.list_of-n-requires
list_of-n-requires c =
    stands (goal.at.list_of-n-requires c).In_ok-examined

pub slice_bounds-put_tenths-end : goal.slice_bounds-put_tenths-end
slice_bounds-put_tenths-end c =
    omega (arith, (made (goal.at.slice_bounds-put_tenths-end c).After-list_of-n).long)

pub overflow_cast-result : goal.overflow_cast-result
overflow_cast-result c =
    omega (arith, (made (goal.at.overflow_cast-result c).After-list_of-n).few)
