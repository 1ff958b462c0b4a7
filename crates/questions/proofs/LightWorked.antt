-- Request 1's own case: "A 95 x 10 shelf was turned away although an offcut strip would have held it, because the light looks only at the piece of
-- greatest area." On document 01's sheet, 100 x 60 with first cut Vertical and three stages, a part of 40 x 50 was booked by AcrossThenAlong. Two
-- free pieces are left: 60 x 50, the greater one, and the strip 100 x 10. The light names the strip.
use mathlib.Core.Path.{◌≡◌, refl, sym, ap, subst, ◌∙◌}
use mathlib.Core.Logic.{inl, inr}
use Prim.Native.Nat.{ℕ, ◌<◌}
use native.Mathlib.Omega.{arith}
use lib.ListN.{length}
use Rattle.std.specs.Prelude.{Ok, Some}
use Rattle.piece.specs.declared.node.Datum.{Datum}
use Rattle.piece.specs.declared.node.Kind.{Kind}
use Rattle.piece.specs.declared.node.Kind.TheVariants.{Free, Part, Structure}
use Rattle.piece.specs.declared.orientation.Orientation.{Orientation}
use Rattle.piece.specs.declared.orientation.Orientation.TheVariants.{Horizontal, Vertical}
use Rattle.piece.specs.declared.insertion_blueprint.InsertionShape.TheVariants.{AcrossThenAlong}
use Rattle.piece.specs.declared.parttype.PartType.{PartType}
use Rattle.piece.specs.declared.settings.Settings.{Settings}
use Rattle.piece.specs.Sides.{sized}
use Rattle.piece.specs.Row.{nil, grow}
use Rattle.piece.specs.Offers.{offers_in, offers_of, shapes}
use Rattle.piece.specs.Insertion.{block_of, table}
use Rattle.lists.specs.Search.{first_from}
use Rattle.tree.specs.Tree.{Tree, At}
use Rattle.tree.specs.Booking.{block}
use Rattle.tree.specs.Family.{unheld_from}
use Rattle.tree.specs.Worked.{booked_tree, opening, wanted_part}
use Rattle.marks.specs.declared.Mark.{Mark}
use Rattle.layout.specs.declared.layout.Layout.{Layout}
use Rattle.layout.specs.Check.{tree}
use Rattle.layout.specs.SoundLayout.{SoundLayout, Sized}
use Rattle.layout.proofs.Marks.{Names}
use Rattle.questions.specs.Answers.{mark_of}
use Rattle.questions.specs.Light.{light_of}
use Rattle.questions.proofs.ListMarks.{one-mark}
use Rattle.questions.proofs.LightExactly.{Offering, named-exactly, yes-exactly}

-- a piece, with its serial
abbrev piece : ℕ → Kind → ℕ → Orientation → ℕ → ℕ → ℕ → Datum
piece serial kind level cut number w h =
    record { serial = serial; size = sized w h; number = number; level = level; kind = kind; cut = cut; eaten = 0 }

-- the two free pieces: what is beside the part, and the strip below it
abbrev beside : Datum
beside = piece 6 Free 3 Horizontal 0 60 50

abbrev below : Datum
below = piece 7 Free 2 Vertical 0 100 10

-- the sheet after the booking, with places and serials
abbrev cut_sheet : Tree
cut_sheet =
    grow 0 (piece 1 Structure 0 Vertical 0 100 60)
    (grow 1 (piece 3 Structure 1 Horizontal 0 100 60)
    (grow 2 (piece 4 Structure 2 Vertical 0 100 50) (grow 3 (piece 5 Part 3 Horizontal 7 40 50) nil (grow 4 beside nil nil)) (grow 5 below nil nil))
    nil)
    nil

booked : booked_tree AcrossThenAlong 40 50 ≡ cut_sheet
unfolding block_of table block unheld_from first_from
booked = refl

abbrev shelf : PartType
shelf = wanted_part 95 10

abbrev as_opened : Settings
as_opened = (opening 3).settings

-- the mark of the strip
abbrev pub strip : Mark
strip = record { layout = 1; place = 5; serial = 7 }

-- a piece that is alone in its row
alone : (p q : ℕ) (d x : Datum) → At q x (grow p d nil nil) → (q ≡ p) × (x ≡ d)
alone p q d x (inl h) = h
alone p q d x (inr (inl z)) = absurd z
alone p q d x (inr (inr z)) = absurd z

-- a piece of another kind is no free one
solid : (d x : Datum) → (d.kind ≡ Free → ⊥) → x ≡ d → x.kind ≡ Free → ⊥
solid d x n f k = n (sym (ap (λ (y : Datum). y.kind) f) ∙ k)

structure : Structure ≡ Free → ⊥
structure e = let z : ◌≡◌ {A = ℕ} 0 1 = cc in omega arith

part : Part ≡ Free → ⊥
part e = let z : ◌≡◌ {A = ℕ} 0 1 = cc in omega arith

-- no free piece but the strip has an offer for the shelf
only_below : (q : ℕ) (x : Datum) → At q x cut_sheet → x.kind ≡ Free → 0 < length (offers_of x shelf as_opened) → (q ≡ 5) × (x ≡ below)
unfolding offers_of offers_in
only_below q x (inl (e, f)) k o = absurd (solid _ x structure f k)
only_below q x (inr (inl (inl (e, f)))) k o = absurd (solid _ x structure f k)
only_below q x (inr (inl (inr (inl (inl (e, f)))))) k o = absurd (solid _ x structure f k)
only_below q x (inr (inl (inr (inl (inr (inl (inl (e, f)))))))) k o = absurd (solid _ x part f k)
only_below q x (inr (inl (inr (inl (inr (inl (inr (inr h)))))))) k o =
    let none : 0 < 0 = rw (alone 4 q beside x h).1 at o in absurd (omega arith)
only_below q x (inr (inl (inr (inl (inr (inr h)))))) k o = alone 5 q below x h
only_below q x (inr (inl (inr (inl (inr (inl (inr (inl x11)))))))) k o = elim x11 [ ]
only_below q x (inr (inl (inr (inr x8)))) k o = elim x8 [ ]
only_below q x (inr (inr x6)) k o = elim x6 [ ]

module _ (l : Layout) (sized : Sized l) (s : SoundLayout l) (number : l.number ≡ 1) (settings : l.settings ≡ as_opened)
    (stands : tree l ≡ booked_tree AcrossThenAlong 40 50) where
  there : At 5 below (tree l)
  there = subst (λ (w : Tree). At 5 below w) (sym (stands ∙ booked)) (inr (inl (inr (inl (inr (inr (inl (refl, refl))))))))

  strips : Names l strip below
  strips = record { layout = sym number; there = there; serial = refl }

  offering : Offering l shelf strip
  unfolding offers_of offers_in shapes
  offering = record { piece = below; names = strips; free = refl; offer = rw settings (omega arith) }

  named : (m : Mark) → Offering l shelf m → m ≡ strip
  named m o =
      let found = subst (λ (w : Tree). At m.place o.piece w) (stands ∙ booked) o.names.there in
      let is = only_below m.place o.piece found o.free (rw settings at o.offer) in
      one-mark l s m o.piece o.names ∙ ap (mark_of l) is.0 ∙ sym (one-mark l s strip below strips)

  pub the-strip : light_of l shelf ≡ Ok (Some strip)
  the-strip =
      let y = (yes-exactly l sized s shelf refl).1 (strip, offering) in
      y.1 ∙ ap (λ (n : Mark). Ok (Some n)) (named y.0 ((named-exactly l sized s shelf refl y.0).0 y.1).offering)
