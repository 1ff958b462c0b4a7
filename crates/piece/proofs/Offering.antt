-- What is offered: a rotation and a shape among the offers of a free piece. What is offered can be booked: it fits. Assumes nothing.
use mathlib.Core.Path.{◌≡◌, refl, sym, ap, ◌∙◌, subst}
use mathlib.Core.Bool.{Bool, true, false, cond, ◌&&◌, ◌||◌, false≢true}
use mathlib.Core.List.{List, [], ◌∷◌, ◌++◌, Memᴰ}
use mathlib.Core.Logic.{◌⊎◌, inl, inr, ⊎_elim}
use borrow.Author.Tests.{eqb-true}
use Rattle.piece.specs.declared.rotation.Rotation.{Rotation}
use Rattle.piece.specs.declared.rotation.Rotation.TheVariants.{Default, Rotated}
use Rattle.piece.specs.declared.parttype.PartType.{PartType}
use Rattle.piece.specs.declared.node.Datum.{Datum}
use Rattle.piece.specs.declared.insertion_blueprint.InsertionShape.{InsertionShape}
use Rattle.piece.specs.declared.insertion_option.Offer.{Offer}
use Rattle.piece.specs.declared.settings.Settings.{Settings}
use Rattle.piece.specs.Numbers.{rotation_no, shape_no, rotation_of, shape_of}
use Rattle.piece.specs.Offers.{allowed, along, across, fits, in_rotation, offers_in, offers_of, shapes, turned}
use Rattle.piece.specs.Offered.{same_rotation, same_shape, same_offer, among_b, offered_b}
use Rattle.piece.proofs.Tests.{both}
use Rattle.piece.proofs.Numbers.{rotation-back, shape-back}

-- ---- what is offered fits

same-rotation-is : (a b : Rotation) → same_rotation a b ≡ true → a ≡ b
same-rotation-is a b e = sym (rotation-back a) ∙ ap rotation_of (eqb-true (rotation_no a) (rotation_no b) e) ∙ rotation-back b

same-shape-is : (a b : InsertionShape) → same_shape a b ≡ true → a ≡ b
same-shape-is a b e = sym (shape-back a) ∙ ap shape_of (eqb-true (shape_no a) (shape_no b) e) ∙ shape-back b

or-true-cases : (a b : Bool) → (a || b) ≡ true → (a ≡ true) ⊎ (b ≡ true)
or-true-cases true b e = inl refl
or-true-cases false b e = inr e

-- one list after the other
among-either : (r : Rotation) (s : InsertionShape) (a b : List Offer) → among_b r s (a ++ b) ≡ true
    → (among_b r s a ≡ true) ⊎ (among_b r s b ≡ true)
among-either r s [] b e = inr e
among-either r s (o ∷ a) b e = go (same_offer r s o) e (among-either r s a b)
  where
    go : (c : Bool) → (c || among_b r s (a ++ b)) ≡ true → (among_b r s (a ++ b) ≡ true → (among_b r s a ≡ true) ⊎ (among_b r s b ≡ true))
        → ((c || among_b r s a) ≡ true) ⊎ (among_b r s b ≡ true)
    go true e f = inl refl
    go false e f = f e

-- the offers in one rotation: it is that one, and the shape is one of the shapes
among-rotation : (q r : Rotation) (s : InsertionShape) (ss : List InsertionShape) → among_b r s (in_rotation q ss) ≡ true
    → (q ≡ r) × Memᴰ s ss
among-rotation q r s [] e = absurd (false≢true e)
among-rotation q r s (u ∷ us) e =
    ⊎_elim
    (λ h. let g = both (same_rotation q r) (same_shape u s) h in (same-rotation-is q r g.0, Memᴰ.head (sym (same-shape-is u s g.1))))
    (λ h. let g = among-rotation q r s us h in (g.0, Memᴰ.tail g.1))
    (or-true-cases (same_rotation q r && same_shape u s) (among_b r s (in_rotation q us)) e)

-- what a rotation and a shape have that are offered
pub record Offers (d : Datum) (p : PartType) (settings : Settings) (r : Rotation) (s : InsertionShape) : Type 0 where
  pub allows : allowed p.fixed_rotation r ≡ true
  pub inside : fits d.size (turned r p.size) ≡ true
  pub shaped : Memᴰ s
      (shapes (along d.cut d.size (turned r p.size)) (across d.cut d.size (turned r p.size)) d.level settings.stages)

module _ (d : Datum) (p : PartType) (settings : Settings) (r : Rotation) (s : InsertionShape) where
  in-rotation : (q : Rotation) → among_b r s (offers_in d p settings q) ≡ true → Offers d p settings r s
  unfolding offers_in
  in-rotation q e = go (allowed p.fixed_rotation q && fits d.size (turned q p.size)) refl e
    where
      ss : List InsertionShape
      ss = shapes (along d.cut d.size (turned q p.size)) (across d.cut d.size (turned q p.size)) d.level settings.stages

      go : (c : Bool) → (allowed p.fixed_rotation q && fits d.size (turned q p.size)) ≡ c → among_b r s (cond c (in_rotation q ss) []) ≡ true
          → Offers d p settings r s
      go true t e =
          let g = among-rotation q r s ss e in
          let h = both (allowed p.fixed_rotation q) (fits d.size (turned q p.size)) t in
          let offers : Offers d p settings q s = record { allows = h.0; inside = h.1; shaped = g.1 } in
          subst (λ (z : Rotation). Offers d p settings z s) g.0 offers
      go false t e = absurd (false≢true e)

  pub offered-says : offered_b d p settings r s ≡ true → Offers d p settings r s
  unfolding offered_b offers_of
  offered-says e = ⊎_elim (in-rotation Default) (in-rotation Rotated) (among-either r s (offers_in d p settings Default) (offers_in d p settings Rotated) e)
