-- What the head of a call says of the layout: past it the layout passes the check, and what it stops at is refusal 1.
use mathlib.Core.Path.{◌≡◌, refl, ap, ◌∙◌}
use mathlib.Core.Bool.{Bool, true, false, cond}
use Rattle.std.specs.Prelude.{Result, Ok, Err, ⊤}
use Rattle.marks.specs.declared.Refusal.{Refusal}
use Rattle.marks.specs.declared.Refusal.TheVariants.{NotSound}
use Rattle.sound.proofs.Says.{clash}
use Rattle.layout.specs.declared.layout.Layout.{Layout}
use Rattle.layout.specs.Check.{sound_b}
use Rattle.layout.specs.Refusing.{examined_of}
use Rattle.layout.proofs.Ways.{onward, ended}

abbrev Says : Bool → Result ⊤ Refusal
Says b = cond b (Ok tt) (Err NotSound)

is-true : (b : Bool) (u : ⊤) → Ok u ≡ Says b → b ≡ true
is-true true u h = refl
is-true false u h = absurd (clash (cc))

is-false : (b : Bool) (e : Refusal) → Err e ≡ Says b → (b ≡ false) × (e ≡ NotSound)
is-false false e h = (refl, cc)
is-false true e h = absurd (clash (cc))

-- past it
pub passed : (l : Layout) {u : ⊤} → Ok u ≡ examined_of l → sound_b l ≡ true
passed l {u} h = is-true (sound_b l) u h

-- stopped by it
pub stopped : (l : Layout) {e : Refusal} → Err e ≡ examined_of l → (sound_b l ≡ false) × (e ≡ NotSound)
stopped l {e} h = is-false (sound_b l) e h

-- what a call answers behind it, where that refuses; and where it goes on
module _ {A : Type 0} (l : Layout) where
  pub refuses : {r : Result A Refusal} (y : Result A Refusal) {e : Refusal} → Err e ≡ examined_of l → (x : Refusal) × (r ≡ Err x) × (x ≡ e)
      → r ≡ cond (sound_b l) y (Err NotSound)
  refuses y h p =
      let s = stopped l h in
      p.1 ∙ ended y s.0 (ap Err (p.2 ∙ s.1))

  pub goes_on : {a r : A} (z : A) {u : ⊤} → Ok u ≡ examined_of l → a ≡ r → a ≡ cond (sound_b l) r z
  goes_on z h = onward z (passed l h)
