-- What a tidying leaves of a layout that is as its type says: such a layout, with its number, and a count of two bytes, since no more structures go than there
-- are pieces. Rests on what `layout` proves of a tidying. Assumes nothing.
use mathlib.Core.Path.{◌≡◌, refl}
use mathlib.Core.Bool.{Bool, true, false, cond}
use mathlib.Core.Option.{Option, none, some}
use Prim.Native.Nat.{ℕ, ◌^◌, ◌<◌}
use native.Mathlib.Omega.{arith}
use Rattle.std.specs.Prelude.{Result, Ok, Err, ⊤}
use Rattle.marks.specs.declared.Refusal.{Refusal}
use Rattle.marks.specs.declared.Refusal.TheVariants.{NotSound}
use Rattle.layout.specs.declared.layout.Layout.{Layout}
use Rattle.layout.specs.declared.tidy.Tidied.{Tidied}
use Rattle.layout.specs.Check.{tree, sound_b}
use Rattle.layout.specs.SoundLayout.{Sized}
use Rattle.layout.specs.Tidy.{TidySays, tidy_no}
use Rattle.layout.proofs.Exactly.{sound-says}
use Rattle.layout.proofs.TidyEnds.{empties-most}
use Rattle.layout.proofs.Tidying.{chain-means, tidy-accepted, tidy-refused}

pub record TidyLeaves (l : Layout) (d : Tidied) : Type 0 where
  pub sized : Sized d.layout
  pub number : d.layout.number ≡ l.number
  pub count : d.count < 2 ^ 16

-- what isn't refused with 1 is sound
passed : (b : Bool) (o : Option Refusal) → cond b o (some NotSound) ≡ none → b ≡ true
passed true o h = refl
passed false o h = let z : ◌≡◌ {A = ℕ} 0 1 = cc in absurd (omega arith)

not-refused : (l : Layout) → tidy_no l ≡ none → sound_b l ≡ true
unfolding tidy_no
not-refused l h = passed (sound_b l) _ h

pub tidy-leaves : (l : Layout) (d : Tidied) → Sized l → TidySays l d → TidyLeaves l d
tidy-leaves l d sized says = go d.outcome refl
  where
    go : (v : Result ⊤ Refusal) → d.outcome ≡ v → TidyLeaves l d
    go (Ok tt) e =
        let a = tidy-accepted l d says e in
        let s = sound-says l sized (not-refused l a.0) in
        let m = chain-means s sized a.1.tidies in
        record { sized = m.sized; number = m.number; count = omega (arith, m.count, empties-most (tree l), s.sound.room) }
    go (Err r) e = rw (tidy-refused l d says r e).1 (record { sized = sized; number = refl; count = omega arith })
