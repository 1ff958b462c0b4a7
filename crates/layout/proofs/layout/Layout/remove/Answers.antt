-- `remove` meets its contract: each way out is one outcome of the tests of `remove_no`, and past them the piece may be taken out.
use mathlib.Core.Path.{sym, ◌∙◌}
use lib.ListN.{length}
use Rattle.layout.proofs.Typed.{typed-sized}
use Rattle.layout.proofs.Admitted.{outcome-none, outcome-some}
use Rattle.layout.proofs.RemoveEnds.{not_sound, no-mark, may-not, may-go, refused-so, taken-so, takeable}
use Rattle.layout.proofs.layout.Layout.remove.Goals as goal

pub returns-then-not-sound : goal.returns-then-not-sound
returns-then-not-sound c =
    let a = c.args in let gives = refused-so a.self a.mark a.out.now
    (not_sound a.self a.mark (length a.out.now) (sym c.sound.ensures ∙ c.if-not-sound.true))
    c.refused_remove.ensures in record { says = gives.0; written = gives.1 }

pub taken_out-requires : goal.taken_out-requires
taken_out-requires c =
    takeable c.args.self c.args.mark c.in-Ok.piece (typed-sized c.args.self _ c.well_formed.0) (sym c.sound.ensures ∙ c.if-not-sound.false) (sym c.in-Ok.ensures)
    (outcome-none _ (sym c.in-Ok-may_go.ensures))

pub returns-in-Err : goal.returns-in-Err
returns-in-Err c =
    let a = c.args in let gives = refused-so a.self a.mark a.out.now
    (no-mark a.self a.mark (length a.out.now) (sym c.sound.ensures ∙ c.if-not-sound.false) (sym c.in-Err.ensures))
    c.refused_remove-in-Err.ensures in record { says = gives.0; written = gives.1 }

pub returns-in-Err-may_go : goal.returns-in-Err-may_go
returns-in-Err-may_go c =
    let a = c.args in let gives = refused-so a.self a.mark a.out.now
    (may-not a.self a.mark (length a.out.now) (sym c.sound.ensures ∙ c.if-not-sound.false) (sym c.in-Ok.ensures)
    (outcome-some _ _ (sym c.in-Err-may_go.ensures)))
    c.refused_remove-in-Err-may_go.ensures in record { says = gives.0; written = gives.1 }

pub returns-in-Ok-may_go : goal.returns-in-Ok-may_go
returns-in-Ok-may_go c =
    let a = c.args in let gives = taken-so a.self a.mark a.out.now c.taken_out.result
    (may-go a.self a.mark (length a.out.now) (sym c.sound.ensures ∙ c.if-not-sound.false) (sym c.in-Ok.ensures) (outcome-none _ (sym c.in-Ok-may_go.ensures)))
    c.taken_out.ensures.says c.taken_out.ensures.written in record { says = gives.0; written = gives.1 }
