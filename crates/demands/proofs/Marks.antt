-- Demand 1, what a mark names in the life of one layout: in every later state the same piece, unchanged and under the same parent, or nothing,
-- and then each call with it is refused with 5. It rests on the life's laws (Lives) and on layout's laws of marks. Assumes nothing.
use mathlib.Core.Path.{◌≡◌, refl, sym, ◌∙◌}
use mathlib.Core.Bool.{Bool, true, false}
use mathlib.Core.List.{List, [], ◌∷◌}
use mathlib.Core.Logic.{◌⊎◌, inl, inr, ⊎_elim}
use mathlib.Core.Option.{some}
use Prim.Native.Nat.{ℕ}
use borrow.Author.Tests.{eq-eqb}
use Rattle.std.specs.Prelude.{Ok, Err}
use Rattle.piece.specs.declared.rotation.Rotation.{Rotation}
use Rattle.piece.specs.declared.parttype.PartType.{PartType}
use Rattle.piece.specs.declared.insertion_blueprint.InsertionShape.{InsertionShape}
use Rattle.marks.specs.declared.Mark.{Mark}
use Rattle.marks.specs.declared.Refusal.TheVariants.{Gone}
use Rattle.layout.specs.declared.layout.Layout.{Layout}
use Rattle.layout.specs.Check.{sound_b}
use Rattle.layout.specs.SoundLayout.{SoundLayout}
use Rattle.layout.specs.Asked.{part_b, gone_b, sought_of, free_piece_of}
use Rattle.layout.specs.Insert.{insert_no, piece_at}
use Rattle.layout.specs.Remove.{remove_no}
use Rattle.layout.proofs.Exactly.{sound-shown}
use Rattle.layout.proofs.Marks.{sought-names}
use Rattle.layout.proofs.Ways.{onward, ended}
use Rattle.questions.specs.Answers.{offers_call}
use Rattle.questions.specs.WhyNot.{why_call}
use Rattle.demands.specs.Life.{OneOf, Life, Later, NamesPiece, SamePiece}
use Rattle.demands.proofs.Lives.{states-sound, one_number, one_piece}

-- both are states of the life
pub later-both : (k l : Layout) (ls : List Layout) → Later k l ls → OneOf k ls × OneOf l ls
later-both k l [] o = absurd o
later-both k l (h ∷ hs) (inl y) = (y.1, inl y.0)
later-both k l (h ∷ hs) (inr o) = let z = later-both k l hs o in (inr z.0, inr z.1)

-- a mark of this layout is gone, or names a piece
gone-or-names : (l : Layout) → SoundLayout l → (m : Mark) → m.layout ≡ l.number → (sought_of l m ≡ Err Gone) ⊎ NamesPiece l m
unfolding sought_of
gone-or-names l sound m same = go (gone_b l m) refl
  where
    go : (b : Bool) → gone_b l m ≡ b → (sought_of l m ≡ Err Gone) ⊎ NamesPiece l m
    go true e = inl (sym (onward _ (eq-eqb m.layout l.number same) (onward _ e refl)))
    go false e =
        let found : sought_of l m ≡ Ok (piece_at l m.place) =
        sym (onward _ (eq-eqb m.layout l.number same) (ended _ e refl))
        in
        let n = sought-names l sound m (piece_at l m.place) found in
        inr (record { number = same; there = n.there; serial = n.serial })

-- A mark that named a piece of a state names the same piece of every later state, or is gone there.
pub marks-last : {ls : List Layout} → Life ls → (k l : Layout) → Later k l ls → (m : Mark) → NamesPiece k m
    → (sought_of l m ≡ Err Gone) ⊎ (NamesPiece l m × SamePiece k l m)
marks-last {ls} life k l later m named =
    let o = later-both k l ls later in
    let number = named.number ∙ one_number life k l o.0 o.1 in
    ⊎_elim inl (λ n. inr (n, same o n)) (gone-or-names l (states-sound life l o.1).0 m number)
  where
    same : OneOf k ls × OneOf l ls → NamesPiece l m → SamePiece k l m
    same o n =
        let z =
        one_piece life k l o.0 o.1 m.place m.place (piece_at k m.place) (piece_at l m.place) named.there n.there
        (named.serial ∙ sym n.serial)
        in
        record { piece = sym z.1; parent = sym z.2; parent_piece = sym z.3 }

-- Then a call with it is refused with 5, where no earlier refusal holds.
module _ {ls : List Layout} (life : Life ls) (l : Layout) (state : OneOf l ls) (m : Mark) (gone : sought_of l m ≡ Err Gone) where
  checked : sound_b l ≡ true
  checked = let h = states-sound life l state in sound-shown l h.1 h.0

  pub gone-offers : (p : PartType) → part_b p ≡ true → offers_call l m p ≡ Err Gone
  unfolding offers_call free_piece_of
  gone-offers p part = rw (checked, part, gone) refl

  pub gone-why-not : (p : PartType) → part_b p ≡ true → why_call l m p ≡ Err Gone
  unfolding why_call free_piece_of
  gone-why-not p part = rw (checked, part, gone) refl

  pub gone-insert : (p : PartType) (r : Rotation) (s : InsertionShape) → part_b p ≡ true → insert_no l m p r s ≡ some Gone
  unfolding insert_no free_piece_of
  gone-insert p r s part = rw (checked, part, gone) refl

  pub gone-remove : (room : ℕ) → remove_no l m room ≡ some Gone
  unfolding remove_no
  gone-remove room = rw (checked, gone) refl
