-- `insert` meets its contract: each way out is one outcome of the tests of `insert_no`, by proofs/Admitted.antt. Assumes nothing.
use mathlib.Core.Path.{◌≡◌, refl, sym, ap, ◌∙◌}
use mathlib.Core.Option.{Option, none}
use Rattle.std.specs.Prelude.{Result}
use Rattle.piece.specs.declared.rotation.Rotation.{Rotation}
use Rattle.piece.specs.declared.parttype.PartType.{PartType}
use Rattle.piece.specs.declared.insertion_blueprint.InsertionShape.{InsertionShape}
use Rattle.marks.specs.declared.Refusal.{Refusal}
use Rattle.layout.specs.declared.layout.Layout.{Layout}
use Rattle.piece.specs.declared.node.Datum.{Datum}
use Rattle.layout.specs.Insert.{insert_no, piece_no}
use Rattle.layout.proofs.Typed.{typed-sized}
use Rattle.layout.proofs.Exactly.{sound-says}
use Rattle.layout.proofs.Marks.{headed}
use Rattle.layout.proofs.Admitted.{done-says, insertable, outcome-none, outcome-some, refused_says, sound-counts}
use Rattle.layout.proofs.layout.Layout.insert.Goals as goal
use Rattle.layout.proofs.layout.Layout.insert.Goals.{In-Ok-may_book}

-- the piece or the refusal that the callee t gives is what the contract seeks
as-sought : {o : Option Refusal} {x y t : Result Datum Refusal} (l : Layout) (p : PartType) (r : Rotation) (s : InsertionShape) → t ≡ y → t ≡ x
    → o ≡ piece_no l p r s x → o ≡ piece_no l p r s y
as-sought l p r s f e h = h ∙ ap (piece_no l p r s) (sym e ∙ f)

pub may_book-requires : goal.may_book-requires
may_book-requires c =
    let a = c.args in
    sound-counts a.self
    (sound-says a.self (typed-sized a.self _ c.well_formed.0)
    (headed a.self a.mark a.part _ (sym c.in-Ok.ensures)).sound)

-- nothing refuses it where `may_book` says Done
accepted : (c : In-Ok-may_book)
    → let a = c.args in
    none ≡ insert_no a.self a.mark a.part a.rotation a.shape
unfolding insert_no
accepted c =
    let a = c.args in
    as-sought a.self a.part a.rotation a.shape c.in-Ok.ensures refl
    (sym (outcome-none _ (sym c.in-Ok-may_book.ensures)))

pub booked-requires : goal.booked-requires
booked-requires c =
    let a = c.args in
    insertable a.self a.mark a.part a.rotation a.shape (typed-sized a.self _ c.well_formed.0) (sym (accepted c))

pub returns-in-Err : goal.returns-in-Err
unfolding insert_no
returns-in-Err c =
    let a = c.args in
    refused_says a.self a.mark a.part a.rotation a.shape _ _
    (as-sought a.self a.part a.rotation a.shape c.in-Err.ensures refl refl) c.refused_insert.ensures

pub returns-in-Err-may_book : goal.returns-in-Err-may_book
unfolding insert_no
returns-in-Err-may_book c =
    let a = c.args in
    refused_says a.self a.mark a.part a.rotation a.shape _ _
    (as-sought a.self a.part a.rotation a.shape c.in-Ok.ensures refl
    (sym (outcome-some _ _ (sym c.in-Err-may_book.ensures))))
    c.refused_insert-in-Err-may_book.ensures

pub returns-in-Ok-may_book : goal.returns-in-Ok-may_book
returns-in-Ok-may_book c =
    let a = c.args in
    done-says a.self a.mark a.part a.rotation a.shape _ (accepted c.before) c.booked.ensures
