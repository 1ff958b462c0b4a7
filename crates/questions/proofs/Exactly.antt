-- Request 2, "Each is named exactly when it holds": of each reason, when it is given; and a reason says offered exactly where there is an offer, of a
-- rotation and over the calls. Rests on the rules of offers (piece) and on the contract of the offers.
use mathlib.Core.Path.{◌≡◌, refl, ap, subst, ◌∙◌}
use mathlib.Core.Bool.{Bool, true, false, cond, not, ◌&&◌}
use mathlib.Core.List.{[]}
use mathlib.Core.Logic.{◌↔◌, ◌⊎◌, inl, inr, ⊎_elim}
use Prim.Native.Nat.{ℕ, zero, suc, ◌+◌, ◌<◌, ◌≤◌}
use native.Mathlib.Omega.{arith}
use lib.Dec.{leb}
use lib.ListN.{length, length-append}
use borrow.Author.Tests.{ltb-true, ltb-false, leb-true, leb-false, lt-ltb, le-ltb, le-leb, lt-leb}
use Rattle.std.specs.Prelude.{Result, Ok, Err}
use Rattle.piece.specs.declared.size.Size.{Size}
use Rattle.piece.specs.declared.node.Datum.{Datum}
use Rattle.piece.specs.declared.parttype.PartType.{PartType}
use Rattle.piece.specs.declared.rotation.Rotation.{Rotation}
use Rattle.piece.specs.declared.rotation.Rotation.TheVariants.{Default, Rotated}
use Rattle.piece.specs.declared.settings.Settings.{Settings}
use Rattle.piece.specs.Offers.{allowed, along, across, fits, as_offer_list, in_rotation, offers_in, offers_of, shapes, turned}
use Rattle.piece.proofs.Sizes.{fits-sides}
use Rattle.piece.proofs.Offered.{held-count}
use Rattle.lists.proofs.Scan.{clash, and-false}
use Rattle.marks.specs.declared.Mark.{Mark}
use Rattle.marks.specs.declared.Refusal.{Refusal}
use Rattle.layout.specs.declared.layout.Layout.{Layout}
use Rattle.layout.specs.Asked.{sought_of, free_piece_of}
use Rattle.layout.proofs.Marks.{headed}
use Rattle.piece.specs.declared.insertion_option.OfferList.{OfferList}
use Rattle.questions.specs.Answers.{offered_for, offers_call, offers_count}
use Rattle.questions.specs.declared.reason.Reason.{Reason}
use Rattle.questions.specs.declared.reason.Reason.TheVariants.{Forbidden, TooWide, TooTall, TooWideAndTall, StagesUsedUp, Offered}
use Rattle.questions.specs.declared.why_not.Reasons.{Reasons}
use Rattle.layout.specs.Refusing.{outcome_in}
use Rattle.questions.specs.Reasons.{reason_in, reason_of, too_tall, too_wide}
use Rattle.questions.specs.WhyNot.{SomeOffered, reasons_for, why_call, why_for}

-- the two tests of the sides, and what they say together
module _ (piece part : Size) where
  wide : piece.width < part.width → too_wide piece part ≡ true
  wide h = lt-ltb _ _ h

  narrow : part.width ≤ piece.width → too_wide piece part ≡ false
  narrow h = le-ltb _ _ h

  tall : piece.height < part.height → too_tall piece part ≡ true
  tall h = lt-ltb _ _ h

  low : part.height ≤ piece.height → too_tall piece part ≡ false
  low h = le-ltb _ _ h

  within : too_wide piece part ≡ false → too_tall piece part ≡ false → fits piece part ≡ true
  within w t =
      rw (le-leb part.width piece.width (ltb-false _ _ w), le-leb part.height piece.height (ltb-false _ _ t)) refl

-- a rotation that fits has an offer exactly where it is an along fit or a stage is left
some-shape : (r : Rotation) (al ac : Bool) (level stages : ℕ) → (al ≡ true) ⊎ (level < stages)
    → 0 < length (in_rotation r (shapes al ac level stages))
unfolding shapes
some-shape r true ac level stages k = omega arith
some-shape r false ac level stages (inl e) = absurd (clash e)
some-shape r false true level stages (inr n) = rw (lt-ltb level stages n) (omega arith)
some-shape r false false level stages (inr n) = rw (lt-ltb level stages n) (omega arith)

no-shape : (ac : Bool) (level stages : ℕ) → stages ≤ level → shapes false ac level stages ≡ []
unfolding shapes
no-shape ac level stages h =
    simp (le-ltb level stages h, le-ltb (level + 1) stages (omega arith), and-false ac false refl)

module _ (piece : Datum) (part : PartType) (settings : Settings) (r : Rotation) where
  -- the part as it would be cut
  abbrev cut_as : Size
  cut_as = turned r part.size

  abbrev Allowed : Type 0
  Allowed = allowed part.fixed_rotation r ≡ true

  abbrev Fits : Type 0
  Fits = fits piece.size cut_as ≡ true

  -- when each holds
  abbrev When : Reason → Type 0
  When Forbidden = allowed part.fixed_rotation r ≡ false
  When TooWide = Allowed × (piece.size.width < cut_as.width) × (cut_as.height ≤ piece.size.height)
  When TooTall = Allowed × (cut_as.width ≤ piece.size.width) × (piece.size.height < cut_as.height)
  When TooWideAndTall = Allowed × (piece.size.width < cut_as.width) × (piece.size.height < cut_as.height)
  When StagesUsedUp = Allowed × Fits × (along piece.cut piece.size cut_as ≡ false) × (settings.stages ≤ piece.level)
  When Offered = Allowed × Fits × ((along piece.cut piece.size cut_as ≡ true) ⊎ (piece.level < settings.stages))

  -- the reason that is given holds
  holds : When (reason_in piece part settings r)
  unfolding reason_in
  holds =
      go (allowed part.fixed_rotation r) refl (too_wide piece.size cut_as) refl (too_tall piece.size cut_as) refl
      (along piece.cut piece.size cut_as) refl (leb settings.stages piece.level) refl
    where
      go : (a : Bool) → allowed part.fixed_rotation r ≡ a → (w : Bool) → too_wide piece.size cut_as ≡ w → (t : Bool) → too_tall piece.size cut_as ≡ t
          → (al : Bool) → along piece.cut piece.size cut_as ≡ al → (n : Bool) → leb settings.stages piece.level ≡ n → When (reason_of a w t al n)
      go false a w ew t et al eal n en = a
      go true a true w true t al eal n en = (a, ltb-true _ _ w, ltb-true _ _ t)
      go true a true w false t al eal n en = (a, ltb-true _ _ w, ltb-false _ _ t)
      go true a false w true t al eal n en = (a, ltb-false _ _ w, ltb-true _ _ t)
      go true a false w false t true al n en = (a, within piece.size cut_as w t, inl al)
      go true a false w false t false al true n = (a, within piece.size cut_as w t, al, leb-true _ _ n)
      go true a false w false t false al false n = (a, within piece.size cut_as w t, inr (leb-false _ _ n))

  -- and one that holds is given
  given : (x : Reason) → When x → reason_in piece part settings r ≡ x
  unfolding reason_in
  given Forbidden a = rw a refl
  given TooWide (a, w, t) = rw (a, wide piece.size cut_as w, low piece.size cut_as t) refl
  given TooTall (a, w, t) = rw (a, narrow piece.size cut_as w, tall piece.size cut_as t) refl
  given TooWideAndTall (a, w, t) = rw (a, wide piece.size cut_as w, tall piece.size cut_as t) refl
  given StagesUsedUp (a, f, al, n) =
      let s = fits-sides piece.size cut_as f in
      rw (a, narrow piece.size cut_as s.0, low piece.size cut_as s.1, al, le-leb settings.stages piece.level n) refl
  given Offered (a, f, k) =
      let s = fits-sides piece.size cut_as f in
      rw (a, narrow piece.size cut_as s.0, low piece.size cut_as s.1)
      (⊎_elim (λ al. rw al refl) (λ n. rw (lt-leb settings.stages piece.level n) (either (along piece.cut piece.size cut_as))) k)
    where
      either : (al : Bool) → cond (not al && false) StagesUsedUp Offered ≡ Offered
      either true = refl
      either false = refl

  exactly : (x : Reason) → (reason_in piece part settings r ≡ x) ↔ When x
  exactly x = ((λ e. subst (λ (y : Reason). When y) e holds), given x)

  -- ---- "answer per rotation: turn forbidden, too wide, too tall, too wide and too tall, stages used up, or offered. Each is named exactly when it
  -- holds, forbidden first"

  -- "turn forbidden": whatever else holds
  pub forbidden-exactly : (reason_in piece part settings r ≡ Forbidden) ↔ (allowed part.fixed_rotation r ≡ false)
  forbidden-exactly = exactly Forbidden

  -- "too wide": and not too tall
  pub too-wide-exactly : (reason_in piece part settings r ≡ TooWide)
      ↔ (Allowed × (piece.size.width < cut_as.width) × (cut_as.height ≤ piece.size.height))
  too-wide-exactly = exactly TooWide

  -- "too tall": and not too wide
  pub too-tall-exactly : (reason_in piece part settings r ≡ TooTall)
      ↔ (Allowed × (cut_as.width ≤ piece.size.width) × (piece.size.height < cut_as.height))
  too-tall-exactly = exactly TooTall

  -- "too wide and too tall"
  pub too-wide-and-tall-exactly : (reason_in piece part settings r ≡ TooWideAndTall)
      ↔ (Allowed × (piece.size.width < cut_as.width) × (piece.size.height < cut_as.height))
  too-wide-and-tall-exactly = exactly TooWideAndTall

  -- `"stages used up" exactly when the part fits, isn't an along fit and the level has reached the stages`
  pub stages-used-up-exactly : (reason_in piece part settings r ≡ StagesUsedUp)
      ↔ (Allowed × Fits × (along piece.cut piece.size cut_as ≡ false) × (settings.stages ≤ piece.level))
  stages-used-up-exactly = exactly StagesUsedUp

  -- "or offered"
  pub offered-exactly : (reason_in piece part settings r ≡ Offered)
      ↔ (Allowed × Fits × ((along piece.cut piece.size cut_as ≡ true) ⊎ (piece.level < settings.stages)))
  offered-exactly = exactly Offered

  -- ---- a reason says offered exactly where the rotation has an offer

  has-offer : When Offered → 0 < length (offers_in piece part settings r)
  unfolding offers_in
  has-offer (a, f, k) =
      rw (a, f)
      (some-shape r (along piece.cut piece.size cut_as) (across piece.cut piece.size cut_as) piece.level settings.stages k)

  -- any other reason leaves none
  no-offer : (x : Reason) → When x → (x ≡ Offered) ⊎ (offers_in piece part settings r ≡ [])
  unfolding offers_in
  no-offer Forbidden a = inr (rw a refl)
  no-offer TooWide (a, w, t) = inr (rw (a, lt-leb cut_as.width piece.size.width w) refl)
  no-offer TooTall (a, w, t) = inr (rw (a, le-leb cut_as.width piece.size.width w, lt-leb cut_as.height piece.size.height t) refl)
  no-offer TooWideAndTall (a, w, t) = inr (rw (a, lt-leb cut_as.width piece.size.width w) refl)
  no-offer StagesUsedUp (a, f, al, n) =
      inr (rw (a, f, al, no-shape (across piece.cut piece.size cut_as) piece.level settings.stages n) refl)
  no-offer Offered k = inl refl

  pub offered-has-offer : (reason_in piece part settings r ≡ Offered) ↔ (0 < length (offers_in piece part settings r))
  offered-has-offer = (
    (λ e. has-offer ((exactly Offered).0 e)),
    λ h. ⊎_elim (λ e. e) (λ e. let z : ⊥ = omega (arith, ap length e) in absurd z) (no-offer (reason_in piece part settings r) holds),
  )

-- ---- over the calls

-- two answers on the same layout, mark and part
record Agree (w : Result Reasons Refusal) (o : Result OfferList Refusal) : Type 0 where
  outcome : outcome_in w ≡ outcome_in o
  offers : (0 < offers_count o) ↔ SomeOffered w

-- one of two lists has an entry
either-some : (a b : ℕ) → 0 < a + b → (0 < a) ⊎ (0 < b)
either-some zero b h = inr (omega arith)
either-some (suc a) b h = inl (omega arith)

module _ (d : Datum) (p : PartType) (settings : Settings) where
  counted : (as_offer_list (offers_of d p settings)).count ≡ length (offers_in d p settings Default) + length (offers_in d p settings Rotated)
  unfolding offers_of
  counted = held-count _ ∙ length-append (offers_in d p settings Default) (offers_in d p settings Rotated)

  piece-offers : (0 < (as_offer_list (offers_of d p settings)).count) ↔ SomeOffered (Ok (reasons_for d p settings))
  piece-offers =
      let one = offered-has-offer d p settings Default in
      let two = offered-has-offer d p settings Rotated in (
        (λ h. ⊎_elim (λ k. inl (one.1 k)) (λ k. inr (two.1 k)) (either-some _ _ (rw counted at h))),
        ⊎_elim (λ e. omega (arith, counted, one.0 e)) (λ e. omega (arith, counted, two.0 e)),
      )

sought-agree : (l : Layout) (p : PartType) (s : Result Datum Refusal) → Agree (why_for l p s) (offered_for l p s)
sought-agree l p (Err e) = record { outcome = refl; offers = ((λ h. let z : ⊥ = omega arith in z), λ k. absurd k) }
sought-agree l p (Ok d) = record { outcome = refl; offers = piece-offers d p l.settings }

calls-agree : (l : Layout) (m : Mark) (p : PartType) → Agree (why_call l m p) (offers_call l m p)
unfolding why_call offers_call
calls-agree l m p = sought-agree l p (free_piece_of l m p)

module _ (l : Layout) (m : Mark) (p : PartType) where
  -- "Refusals: those of offers."
  pub same_outcome : outcome_in (why_call l m p) ≡ outcome_in (offers_call l m p)
  same_outcome = (calls-agree l m p).outcome

  -- the piece has some offer for the part exactly where one of the two reasons says so
  pub some-offer : (0 < offers_count (offers_call l m p)) ↔ SomeOffered (why_call l m p)
  some-offer = (calls-agree l m p).offers

  -- a call that is done gives the reasons of the piece that the mark names, so that what is said above holds of its answer
  pub reasons-of-piece : (d : Datum) (w : Reasons) → sought_of l m ≡ Ok d → why_call l m p ≡ Ok w → w ≡ reasons_for d p l.settings
  unfolding why_call
  reasons-of-piece d w e = go (free_piece_of l m p) refl
    where
      go : (q : Result Datum Refusal) → free_piece_of l m p ≡ q → why_for l p q ≡ Ok w → w ≡ reasons_for d p l.settings
      go (Err r) f h = absurd (clash (cc))
      go (Ok x) f h =
          let is : x ≡ d = cc (headed l m p x f).named in
          let given : w ≡ reasons_for x p l.settings = cc in
          given ∙ ap (λ (y : Datum). reasons_for y p l.settings) is
