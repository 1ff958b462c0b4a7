-- Laws of the offers: how many there are, and what the code's list of them tells.
use mathlib.Core.Path.{◌≡◌, refl, ap}
use mathlib.Core.Bool.{Bool, true, false, cond}
use mathlib.Core.List.{List, [], ◌∷◌, ◌++◌, append-nil, append_assoc}
use Prim.Native.Nat.{ℕ, suc, ◌+◌, ◌≤◌, ◌<◌}
use native.Mathlib.Omega.{arith}
use borrow.Author.Rules.{rules}
use lib.ListN.{length, take, length-append}
use Rattle.piece.specs.declared.rotation.Rotation.{Rotation}
use Rattle.piece.specs.declared.rotation.Rotation.TheVariants.{Default, Rotated}
use Rattle.piece.specs.declared.parttype.PartType.{PartType}
use Rattle.piece.specs.declared.settings.Settings.{Settings}
use Rattle.piece.specs.declared.node.Datum.{Datum}
use Rattle.piece.specs.declared.insertion_blueprint.InsertionShape.{InsertionShape}
use Rattle.piece.specs.declared.insertion_option.Offer.{Offer}
use Rattle.piece.specs.Offers.{only, shapes, in_rotation, offers_in, offers_of, no_offer, as_offer_list, no_offers, with_offer, with_offers}
use Rattle.piece.proofs.Padded.{padded-whole}

-- whichever way a test goes
either : {A : Type 0} (n : ℕ) (b : Bool) (x y : List A) → length x ≤ n → length y ≤ n → length (cond b x y) ≤ n
either n true x y p q = p
either n false x y p q = q

only-few : (b : Bool) (s : InsertionShape) → length (only b s) ≤ 1
only-few b s = search (rules, either)

two-few : (a b : List InsertionShape) → length a ≤ 1 → length b ≤ 1 → length (a ++ b) ≤ 2
two-few a b p q = simp length-append (omega arith)

shapes-few : (al ac : Bool) (level stages : ℕ) → length (shapes al ac level stages) ≤ 2
unfolding shapes
shapes-few al ac level stages = search (rules, either, two-few, only-few)

in-rotation-length : (r : Rotation) (ss : List InsertionShape) → length (in_rotation r ss) ≡ length ss
in-rotation-length r [] = refl
in-rotation-length r (s ∷ ss) = ap suc (in-rotation-length r ss)

-- one rotation has at most two offers
pub offers-in-few : (piece : Datum) (part : PartType) (settings : Settings) (r : Rotation) → length (offers_in piece part settings r) ≤ 2
unfolding offers_in
offers-in-few piece part settings r = search (rules, either, in-rotation-length, shapes-few)

-- and a part at most four
pub offers-few : (piece : Datum) (part : PartType) (settings : Settings) → length (offers_of piece part settings) ≤ 4
unfolding offers_of
offers-few piece part settings =
    simp length-append
    (omega (arith, offers-in-few piece part settings Default, offers-in-few piece part settings Rotated))

-- the count is the number of offers
pub held-count : (l : List Offer) → (as_offer_list l).count ≡ length l
unfolding as_offer_list
held-count l = refl

pub counted : (piece : Datum) (part : PartType) (settings : Settings) → (as_offer_list (offers_of piece part settings)).count ≤ 4
counted piece part settings = rw (held-count (offers_of piece part settings)) (offers-few piece part settings)

-- the offers are the list's first entries, as many as the count says
pub held_whole : (l : List Offer) → length l ≤ 4 → take (as_offer_list l).count (as_offer_list l).list ≡ l
unfolding as_offer_list
held_whole l h = padded-whole no_offer 4 4 l h

one_more : (l : List Offer) (x : Offer) → length l < 4 → with_offer (as_offer_list l) x ≡ as_offer_list (l ++ x ∷ [])
unfolding as_offer_list
one_more [] x h = refl
one_more (a ∷ []) x h = refl
one_more (a ∷ b ∷ []) x h = refl
one_more (a ∷ b ∷ d ∷ []) x h = refl
one_more (a ∷ b ∷ d ∷ e ∷ l) x h = absurd (omega arith)

-- offers held, and more of them
pub held_more : (l xs : List Offer) → length l + length xs ≤ 4 → with_offers (as_offer_list l) xs ≡ as_offer_list (l ++ xs)
held_more l [] h = rw append-nil refl
held_more l (x ∷ xs) h =
    rw (one_more l x (omega arith), held_more (l ++ x ∷ []) xs (simp length-append (omega arith)), append_assoc) refl

-- what the code holds after one rotation, and after another
module _ (piece : Datum) (part : PartType) (settings : Settings) (r : Rotation) where
  pub one-rotation : with_offers no_offers (offers_in piece part settings r) ≡ as_offer_list (offers_in piece part settings r)
  unfolding as_offer_list
  one-rotation = held_more [] (offers_in piece part settings r) (omega (arith, offers-in-few piece part settings r))

  pub two-rotations : (q : Rotation) →
      with_offers (as_offer_list (offers_in piece part settings r)) (offers_in piece part settings q)
      ≡ as_offer_list (offers_in piece part settings r ++ offers_in piece part settings q)
  two-rotations q =
      held_more (offers_in piece part settings r) (offers_in piece part settings q)
      (omega (arith, offers-in-few piece part settings r, offers-in-few piece part settings q))
