-- A layout whose sheet usage is answered is sound, so that its record has the figures of its tree; and the usage is a number, so that it has bits.
-- Rests on the layout's soundness check.
use mathlib.Core.Path.{◌≡◌, refl, sym, ◌∙◌}
use mathlib.Core.Bool.{Bool, true, false, cond, not}
use Prim.Native.Nat.{ℕ}
use native.Mathlib.Omega.{arith}
use lib.Dec.{T}
use lib.Ieee.{Float, binary64, to_bits, is_nan}
use Rattle.std.specs.Prelude.{Result, Ok, Err}
use Rattle.piece.specs.Sides.{area}
use Rattle.tree.specs.Figures.{part_area, sheet_usage}
use Rattle.marks.specs.declared.Refusal.{Refusal}
use Rattle.marks.specs.declared.Refusal.TheVariants.{NotSound}
use Rattle.layout.specs.declared.layout.Layout.{Layout}
use Rattle.layout.specs.Check.{tree, sound_b}
use Rattle.layout.specs.SoundLayout.{Sized}
use Rattle.layout.proofs.Exactly.{sound-says}
use Rattle.questions.specs.Answers.{sheet_usage_of}
use Rattle.questions.proofs.Usage.{sheet-usage-number}
use Rattle.frames.specs.Answers.{refused, reported}
use Rattle.frames.specs.declared.Ask.TheVariants.{Report}
use Rattle.session.specs.declared.replies.Said.{Said}
use Rattle.session.specs.Session.{figures, Says}
use Rattle.session.specs.Replies.{Replies}
use Rattle.session.proofs.Ways.{report-gives}

abbrev usage : Layout → Float
usage l = sheet_usage (part_area (tree l)) (area l.settings.sheet)

module _ (l : Layout) {u : Result Float Refusal} (e : u ≡ sheet_usage_of l) where
  answered : {x : Float} → u ≡ Ok x → (sound_b l ≡ true) × (x ≡ usage l)
  unfolding sheet_usage_of
  answered {x} h = go (sound_b l) (sym h ∙ e)
    where
      go : (b : Bool) → Ok x ≡ cond b (Ok (usage l)) (Err NotSound) → (b ≡ true) × (x ≡ usage l)
      go true f = (refl, cc)
      go false f = let z : ◌≡◌ {A = ℕ} 0 1 = cc in absurd (omega arith)

  unsound : {y : Refusal} → u ≡ Err y → (sound_b l ≡ false) × (y ≡ NotSound)
  unfolding sheet_usage_of
  unsound {y} h = go (sound_b l) (sym h ∙ e)
    where
      go : (b : Bool) → Err y ≡ cond b (Ok (usage l)) (Err NotSound) → (b ≡ false) × (y ≡ NotSound)
      go true f = let z : ◌≡◌ {A = ℕ} 0 1 = cc in absurd (omega arith)
      go false f = (refl, cc)

  -- the usage has bits
  pub usage-bits : {x : Float} → Sized l → u ≡ Ok x → T (not (is_nan x))
  usage-bits sized h =
      let a = answered h in
      rw a.1 (sheet-usage-number l (sound-says l sized a.0))

  -- what the answer, or the refusal, asks for is said
  pub reported-done : {x : Float} {r : Said} {b : Bool} → Sized l → u ≡ Ok x → b ≡ false
      → Says (reported l.used l.held (to_bits binary64 x)) r → Replies l Report (record { layout = l; refused = b; said = r })
  reported-done {x} sized h is y =
      let a = answered h in
      let f = sound-says l sized a.0 in
      let same : reported l.used l.held (to_bits binary64 x) ≡ figures l = cc (f.used, f.held, a.1) in
      report-gives l a.0 is (rw same at y)

  pub reported-refused : {x : Refusal} {r : Said} {b : Bool} → u ≡ Err x → b ≡ true → Says (refused 7 x) r
      → Replies l Report (record { layout = l; refused = b; said = r })
  reported-refused h is y =
      let a = unsound h in
      report-gives l a.0 is (rw a.1 at y)
