-- What document 02, No. 5, gives a caller of `tidy`, on any answer that meets its contract (specs/Tidy.antt): an accepted one gives a sound and tidy layout,
-- and as many structures went as had no part inside. From no layout are there two such chains of steps, and there is one wherever the serials last. Assumes
-- nothing.
use mathlib.Core.Path.{◌≡◌, refl, sym, ap, ◌∙◌, subst}
use mathlib.Core.Bool.{Bool, true, false, cond}
use mathlib.Core.Option.{Option, none, some}
use Prim.Native.Nat.{ℕ, zero, suc, ◌+◌, ◌≤◌, ◌<◌}
use native.Mathlib.Nat.{le_refl}
use native.Mathlib.Omega.{arith}
use native.Mathlib.Decide.{dec_lt}
use lib.Dec.{leb}
use borrow.Author.Tests.{leb-true}
use Rattle.std.specs.Prelude.{Ok, Err}
use Rattle.tree.specs.Tree.{Tree}
use Rattle.tree.specs.Tidy.{Lowest, Tidy, Takings, taken, empties}
use Rattle.tree.specs.Tidy as takings
use Rattle.tree.proofs.Family.{fresh-removal}
use Rattle.tree.proofs.Laws.TidyTree.{untidy-removable, untidy-some, tidy-none}
use Rattle.removal.specs.Untidy.{lowest_untidy}
use Rattle.marks.specs.declared.Refusal.{Refusal}
use Rattle.marks.specs.declared.Refusal.TheVariants.{NotSound, SerialsSpent}
use Rattle.sound.proofs.Says.{clash}
use Rattle.layout.specs.declared.layout.Layout.{Layout}
use Rattle.layout.specs.declared.remove.Removed.{Removed}
use Rattle.layout.specs.declared.tidy.Tidied.{Tidied}
use Rattle.layout.specs.Check.{limit, max_serial, tree, sound_b}
use Rattle.layout.specs.SoundLayout.{SoundLayout, Sized}
use Rattle.layout.specs.Remove.{RemoveDone, place_for}
use Rattle.layout.specs.Tidy.{Tidies, tidy, takes, TidyDone, TidySays, refused_tidy, tidy_is, tidy_no}
use Rattle.layout.proofs.Changed.{next-is-one}
use Rattle.layout.proofs.Exactly.{sound-says}
use Rattle.layout.proofs.TakenOut.{some-removed}
use Rattle.layout.proofs.TidyEnds.{emptyable, finds, finds-none, one_less}

-- ---- what a chain of steps comes to

pub record TidiesMeans (l : Layout) (k : ℕ) (n : Layout) : Type 0 where
  pub sound : SoundLayout n
  pub sized : Sized n
  pub serial : n.serial ≡ l.serial + k
  pub number : n.number ≡ l.number
  pub settings : n.settings ≡ l.settings
  pub takings : Takings limit (tree l) k (tree n)
  pub tidy : Tidy (tree n)
  pub count : k ≡ empties (tree l)

-- (the serials last: each layout on the way is sound)
pub chain-means : {l n : Layout} {k : ℕ} → SoundLayout l → Sized l → Tidies l k n → TidiesMeans l k n
chain-means {l} s z (tidy t) =
    record {
      sound = s;
      sized = z;
      serial = omega arith;
      number = refl;
      settings = refl;
      takings = takings.none;
      tidy = t;
      count = sym (tidy-none (tree l) s.sound t);
    }
chain-means {l} s z (takes x a low d g) =
    let r = chain-means d.next.sound d.next.sized g in
    let fresh = fresh-removal limit l.settings (tree l) s.sound x (untidy-removable x (tree l) low.untidy) in
    record {
      sound = r.sound;
      sized = r.sized;
      serial = omega (arith, r.serial, d.next.serial);
      number = r.number ∙ d.next.number;
      settings = r.settings ∙ d.next.settings;
      takings = taken x (place_for l x) (l.serial + 1) low.untidy fresh.0 fresh.1 (rw d.next.tree at r.takings);
      tidy = r.tidy;
      count = omega (arith, r.count, one_less l s x low.untidy a d);
    }

pub tidies-means : {l n : Layout} {k : ℕ} → SoundLayout l → Sized l → l.serial + empties (tree l) ≤ max_serial → Tidies l k n → TidiesMeans l k n
tidies-means s z b g = chain-means s z g

-- ---- there is one chain

-- one structure is the lowest
lowest-one : (t : Tree) (x y : ℕ) → Lowest x t → Lowest y t → x ≡ y
lowest-one t x y a b = go (dec_lt x y) (dec_lt y x)
  where
    go : Dec (x < y) → Dec (y < x) → x ≡ y
    go (yes h) e = absurd (b.lowest x h a.untidy)
    go (no h) (yes g) = absurd (a.lowest y g b.untidy)
    go (no h) (no g) = omega arith

none_more : {l n : Layout} {k : ℕ} → Tidy (tree l) → Tidies l k n → (0 ≡ k) × (l ≡ n)
none_more t (tidy u) = (refl, refl)
none_more t (takes x a low d g) = absurd (t x low.untidy)

same_step : {l n m : Layout} {k j : ℕ} (x : ℕ) (a : Removed) → Lowest x (tree l) → RemoveDone l x a
    → ((i : ℕ) (o : Layout) → Tidies a.layout i o → (k ≡ i) × (n ≡ o)) → Tidies l j m → (1 + k ≡ j) × (n ≡ m)
same_step x a low d ih (tidy t) = absurd (t x low.untidy)
same_step {l} {n} {m} x a low d ih (takes {k = i} y b other e g) =
    let same = lowest-one (tree l) x y low other in
    let f : RemoveDone l y a = subst (λ (z : ℕ). RemoveDone l z a) same d in
    let left = next-is-one l _ _ _ b.layout a.layout e.next f.next in
    let r = ih i m (subst (λ (o : Layout). Tidies o i m) left g) in
    (ap (λ (z : ℕ). 1 + z) r.0, r.1)

pub tidies-once : {l n n' : Layout} {k k' : ℕ} → Tidies l k n → Tidies l k' n' → (k ≡ k') × (n ≡ n')
tidies-once (tidy t) h = none_more t h
tidies-once (takes x a low d g) h = same_step x a low d (λ i o f. tidies-once g f) h

-- ---- there is a chain, if the serials last

abbrev Chain : Layout → Type 0
Chain l = (k : ℕ) × (n : Layout) × Tidies l k n

-- a step, and a chain from what it leaves
step_then : (l : Layout) → SoundLayout l → Sized l → l.serial + empties (tree l) ≤ max_serial → (x : ℕ) → Lowest x (tree l)
    → ((n : Layout) → SoundLayout n → Sized n → 1 + empties (tree n) ≡ empties (tree l) → n.serial + empties (tree n) ≤ max_serial → Chain n) → Chain l
step_then l s z last x low ih =
    let more = untidy-some x (tree l) s.sound low.untidy in
    let can = emptyable l s x low.untidy z (omega arith) in
    let r = some-removed l x can.0 in
    let next = r.1.next in
    let less = one_less l s x low.untidy r.0 r.1 in
    let rest = ih r.0.layout next.sound next.sized less (omega (arith, next.serial)) in
    (1 + rest.0, rest.1, takes x r.0 low r.1 rest.2)

chain-from : (most : ℕ) (l : Layout) → SoundLayout l → Sized l → empties (tree l) ≤ most → l.serial + empties (tree l) ≤ max_serial → Chain l
chain-from zero l s z few last = go (dec_lt (lowest_untidy l.nodes) limit)
  where
    go : Dec (lowest_untidy l.nodes < limit) → Chain l
    go (no b) = (0, l, tidy (finds-none l s (omega arith)))
    go (yes b) =
        let more = untidy-some (lowest_untidy l.nodes) (tree l) s.sound (finds l s b).untidy in
        let none-there : ⊥ = omega arith in
        absurd none-there
chain-from (suc most) l s z few last =
    go (dec_lt (lowest_untidy l.nodes) limit) (λ n sn zn less lasts. chain-from most n sn zn (omega arith) lasts)
  where
    go : Dec (lowest_untidy l.nodes < limit)
        → ((n : Layout) → SoundLayout n → Sized n → 1 + empties (tree n) ≡ empties (tree l) → n.serial + empties (tree n) ≤ max_serial → Chain n) → Chain l
    go (no b) ih = (0, l, tidy (finds-none l s (omega arith)))
    go (yes b) ih = step_then l s z last (lowest_untidy l.nodes) (finds l s b) ih

pub tidies-some : (l : Layout) → SoundLayout l → Sized l → l.serial + empties (tree l) ≤ max_serial → (k : ℕ) × (n : Layout) × Tidies l k n
tidies-some l s z last = chain-from (empties (tree l)) l s z (le_refl (empties (tree l))) last

-- so the contract can be met, on every layout
pub some-tidy : (l : Layout) → Sized l → (a : Tidied) × TidySays l a
unfolding TidySays tidy_no
some-tidy l z = go (sound_b l) refl (leb (l.serial + empties (tree l)) max_serial) refl
  where
    go : (b : Bool) → sound_b l ≡ b → (c : Bool) → leb (l.serial + empties (tree l)) max_serial ≡ c
        → (a : Tidied) × tidy_is (cond (sound_b l) (cond (leb (l.serial + empties (tree l)) max_serial) none (some SerialsSpent)) (some NotSound)) l a
    go false e c f = (refused_tidy l NotSound, rw e refl)
    go true e false f = (refused_tidy l SerialsSpent, rw (e, f) refl)
    go true e true f =
        let g = tidies-some l (sound-says l z e) z (leb-true (l.serial + empties (tree l)) max_serial f) in
        (record { outcome = Ok tt; count = g.0; layout = g.1 }, rw (e, f) (record { outcome = refl; tidies = g.2 }))

-- ---- an answer that meets the contract

done-means : (o : Option Refusal) (l : Layout) (a : Tidied) → tidy_is o l a → a.outcome ≡ Ok tt → (o ≡ none) × TidyDone l a
done-means none l a h d = (refl, h)
done-means (some e) l a h d = let z : Err e ≡ Ok tt = sym (ap (λ (r : Tidied). r.outcome) h) ∙ d in absurd (clash (cc))

pub tidy-accepted : (l : Layout) (a : Tidied) → TidySays l a → a.outcome ≡ Ok tt → (tidy_no l ≡ none) × TidyDone l a
unfolding TidySays
tidy-accepted l a says done = done-means (tidy_no l) l a says done

refused-means : (o : Option Refusal) (l : Layout) (a : Tidied) (e : Refusal) → tidy_is o l a → a.outcome ≡ Err e
    → (o ≡ some e) × (a ≡ refused_tidy l e)
refused-means none l a e h d = let z : (Ok tt) ≡ Err e = sym h.outcome ∙ d in absurd (clash (cc))
refused-means (some f) l a e h d =
    let z : Err f ≡ Err e = sym (ap (λ (r : Tidied). r.outcome) h) ∙ d in
    let same : f ≡ e = cc in
    (ap some same, h ∙ ap (refused_tidy l) same)

-- refused: the layout comes back as it came, and nothing was taken out
pub tidy-refused : (l : Layout) (a : Tidied) → TidySays l a → (e : Refusal) → a.outcome ≡ Err e → (tidy_no l ≡ some e) × (a ≡ refused_tidy l e)
unfolding TidySays
tidy-refused l a says e d = refused-means (tidy_no l) l a e says d
