-- The law of change requests 3 and 4 for layouts: "For every sound layout, running the list on the full sheet gives exactly the parts and free pieces of the
-- tree, in tree order, and never cuts a piece that isn't there or at distance 0", where the saw "loses the recorded amount with each cut". First of
-- the list itself, then of the bytes that the two calls are to write, and then of what the calls' contracts say is in the lent buffers. Rests on
-- Sawn, Told, CutBytes and Copied. Assumes nothing.
use mathlib.Core.Path.{◌≡◌, refl}
use mathlib.Core.List.{List, [], ◌∷◌}
use mathlib.Core.Bool.{Bool, true, false, cond}
use mathlib.Core.Option.{some}
use Prim.Native.Nat.{ℕ, ◌*◌, ◌≤◌}
use native.Mathlib.Omega.{arith}
use lib.Dec.{leb}
use lib.ListN.{length, take}
use lib.Seq.{sets}
use borrow.Author.Tests.{leb-true}
use Rattle.std.specs.Prelude.{Ok, Err}
use Rattle.marks.specs.declared.Refusal.TheVariants.{NotSound, BufferTooShort}
use Rattle.layout.specs.declared.layout.Layout.{Layout}
use Rattle.layout.specs.Check.{limit, tree, sound_b}
use Rattle.layout.specs.SoundLayout.{SoundLayout, Sized}
use Rattle.layout.proofs.Exactly.{sound-says}
use Rattle.questions.proofs.Lent.{Ends}
use Rattle.saw.specs.Saw.{saw}
use Rattle.saw.specs.Cuts.{cuts, boards}
use Rattle.saw.specs.Read.{read_cuts, losing, EachOf}
use Rattle.saw.specs.Written.{saw_bytes, amount_bytes}
use Rattle.saw.proofs.Sawn.{saw-gives, cuts-most}
use Rattle.saw.proofs.CutBytes.{length-bytes, length-amounts}
use Rattle.saw.proofs.Told.{list_read, amounts-lesser}
use Rattle.saw.proofs.Copied.{take-stored}

pub sawn : (l : Layout) → SoundLayout l → saw (cuts (tree l)) (l.settings.sheet ∷ []) ≡ some (boards (tree l))
sawn l s = saw-gives (tree l) s.sound

-- read back from the bytes, with the amounts
pub sawn-bytes : (l : Layout) → SoundLayout l
    → saw (losing (read_cuts (saw_bytes l)) (amount_bytes l)) (l.settings.sheet ∷ []) ≡ some (boards (tree l))
unfolding saw_bytes amount_bytes
sawn-bytes l s = list_read (tree l) (omega arith) s.sound

-- "9 bytes each", and an amount for each cut; and there is no more of them than there is room for where each place has one
pub list_length : (l : Layout) → length (saw_bytes l) ≡ 9 * length (cuts (tree l))
unfolding saw_bytes
list_length l = length-bytes (cuts (tree l))

pub amounts-length : (l : Layout) → length (amount_bytes l) ≡ length (cuts (tree l))
unfolding amount_bytes
amounts-length l = length-amounts (cuts (tree l))

pub few-cuts : (l : Layout) → SoundLayout l → length (cuts (tree l)) ≤ limit
few-cuts l s = omega (arith, cuts-most (tree l) s.sound, s.sound.room)

pub list-room : (l : Layout) → SoundLayout l → length (saw_bytes l) ≤ 9 * limit
list-room l s = omega (arith, list_length l, few-cuts l s)

pub amounts-room : (l : Layout) → SoundLayout l → length (amount_bytes l) ≤ limit
amounts-room l s = omega (arith, amounts-length l, few-cuts l s)

-- none of the amounts is greater than the blade's width
pub amounts-bladed : (l : Layout) → SoundLayout l → EachOf (λ (n : ℕ). n ≤ l.settings.blade) (amount_bytes l)
unfolding amount_bytes
amounts-bladed l s = amounts-lesser (tree l) s.sound

-- a call counts bytes only where both tests passed
pub counted : (sound fits : Bool) (m n : ℕ) (before what after : List ℕ)
    → Ok n ≡ cond sound (cond fits (Ok m) (Err BufferTooShort)) (Err NotSound)
    → after ≡ cond sound (cond fits what before) before
    → (sound ≡ true) × (fits ≡ true) × (n ≡ m) × (after ≡ what)
counted true true m n before what after e f = (refl, refl, cc, f)
counted true false m n before what after e f = let z : ◌≡◌ {A = ℕ} 0 1 = cc in let none : ⊥ = omega arith in absurd none
counted false fits m n before what after e f = let z : ◌≡◌ {A = ℕ} 0 1 = cc in let none : ⊥ = omega arith in absurd none

-- where a call answers n bytes, what it is to write are the first n of the buffer
first_out : (l : Layout) (what : List ℕ) (n : ℕ) (before after : List ℕ) → Ends l what (Ok n) before after → (sound_b l ≡ true) × (take n after ≡ what)
first_out l what n before after e =
    let w = counted (sound_b l) (leb (length what) (length before)) (length what) n before (sets before 0 what) after e.0 e.1 in
    (w.0, rw (w.3, w.2) (take-stored what before (length what) refl (leb-true (length what) (length before) w.1)))

-- where the one call answers n bytes and the other m, the first n of the one buffer, read with the first m of the other, and run on the full sheet, give the
-- parts and free pieces
pub sawn-out : (l : Layout) → Sized l → (n m : ℕ) (before after beside amounts : List ℕ) → Ends l (saw_bytes l) (Ok n) before after
    → Ends l (amount_bytes l) (Ok m) beside amounts
    → saw (losing (read_cuts (take n after)) (take m amounts)) (l.settings.sheet ∷ []) ≡ some (boards (tree l))
sawn-out l sized n m before after beside amounts e f =
    let one = first_out l (saw_bytes l) n before after e in
    let other = first_out l (amount_bytes l) m beside amounts f in
    rw (one.1, other.1) (sawn-bytes l (sound-says l sized one.0))
