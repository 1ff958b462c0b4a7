-- `free_piece` meets its contract: each way out is one outcome of the tests of `free_piece_of`.
use mathlib.Core.Path.{◌≡◌, refl, sym, ap, ◌∙◌}
use Rattle.std.specs.Prelude.{Result, Err}
use Rattle.marks.specs.declared.Refusal.{Refusal}
use Rattle.piece.specs.declared.node.Datum.{Datum}
use Rattle.layout.specs.Asked.{free_piece_of, only_free}
use Rattle.std.proofs.lemmas.Result.{err_from_is_err_and}
use Rattle.layout.proofs.Ways.{onward, ended, onward-by, ended_by}
use Rattle.layout.proofs.Examined.{passed, stopped}
use Rattle.layout.proofs.layout.Layout.free_piece.Goals as goal

-- the piece or the refusal that the callee t gives is what the contract seeks
as-sought : {r x y t : Result Datum Refusal} → t ≡ y → t ≡ x → r ≡ only_free x → r ≡ only_free y
as-sought f e h = h ∙ ap only_free (sym e ∙ f)

pub returns-in_err-examined : goal.returns-in_err-examined
unfolding free_piece_of
returns-in_err-examined c =
    let p = err_from_is_err_and c.from_residual.result c.from_residual.ensures.1 in
    let s = stopped c.args.self c.in_err-examined.ensures in
    rw (p.1, p.2) (ended _ s.0 (ap Err s.1))

pub returns-then-not-part_ok : goal.returns-then-not-part_ok
unfolding free_piece_of
returns-then-not-part_ok c =
    onward _ (passed c.args.self c.in_ok-examined.ensures) (ended_by _ c.part_ok.ensures c.if-not-part_ok.true refl)

pub returns-in_err-piece : goal.returns-in_err-piece
unfolding free_piece_of
returns-in_err-piece c =
    let p = err_from_is_err_and c.from_residual-in_err-piece.result c.from_residual-in_err-piece.ensures.1 in
    onward _ (passed c.args.self c.in_ok-examined.ensures)
    (onward-by _ c.part_ok.ensures c.if-not-part_ok.false (as-sought c.in_err-piece.ensures refl (rw (p.1, p.2) refl)))

pub returns-then-not-is_free : goal.returns-then-not-is_free
unfolding free_piece_of
returns-then-not-is_free c =
    onward _ (passed c.args.self c.in_ok-examined.ensures)
    (onward-by _ c.part_ok.ensures c.if-not-part_ok.false
    (as-sought c.in_ok-piece.ensures refl (ended_by _ c.is_free.ensures c.if-not-is_free.true refl)))

pub returns : goal.returns
unfolding free_piece_of
returns c =
    onward _ (passed c.args.self c.in_ok-examined.ensures)
    (onward-by _ c.part_ok.ensures c.if-not-part_ok.false
    (as-sought c.in_ok-piece.ensures refl (onward-by _ c.is_free.ensures c.if-not-is_free.false refl)))
