-- Laws of the numbers: each number that is given is a byte and is listed; it says what it was given for; and a listed one comes back. Rests on
-- specs/Numbers.
use mathlib.Core.Path.{◌≡◌, refl}
use mathlib.Core.Bool.{true, false≢true}
use Rattle.std.specs.Prelude.{Option, Some, None}
use Prim.Native.Nat.{ℕ, zero, suc, ◌<◌}
use native.Mathlib.Omega.{arith}
use lib.Dec.{leb}
use borrow.Author.Tests.{leb-true}
use Rattle.piece.specs.declared.orientation.Orientation.{Orientation}
use Rattle.piece.specs.declared.orientation.Orientation.TheVariants.{Horizontal, Vertical}
use Rattle.piece.specs.declared.rotation.Rotation.{Rotation}
use Rattle.piece.specs.declared.rotation.Rotation.TheVariants.{Default, Rotated}
use Rattle.piece.specs.declared.node.Kind.{Kind}
use Rattle.piece.specs.declared.node.Kind.TheVariants.{Free, Part, Structure}
use Rattle.piece.specs.declared.insertion_blueprint.InsertionShape.{InsertionShape}
use Rattle.piece.specs.declared.insertion_blueprint.InsertionShape.TheVariants.{AlongCurrentCut, AcrossCurrentCut, AlongThenAcross, AcrossThenAlong}
use Rattle.piece.specs.Numbers.{kind_no, cut_no, turn_no, rotation_no, shape_no, kind_of, cut_of, turn_of, rotation_of, shape_of}
use Rattle.piece.specs.Numbers.{kind_listed, cut_listed, turn_listed, rotation_listed, shape_listed}
use Rattle.piece.proofs.Tests.{both}

-- ---- a number that is given is listed
pub kind-listed : (k : Kind) → kind_listed (kind_no k) ≡ true
kind-listed Free = refl
kind-listed Part = refl
kind-listed Structure = refl

pub cut-listed : (c : Orientation) → cut_listed (cut_no c) ≡ true
cut-listed Horizontal = refl
cut-listed Vertical = refl

pub turn-listed : (t : Option Rotation) → turn_listed (turn_no t) ≡ true
turn-listed None = refl
turn-listed (Some Default) = refl
turn-listed (Some Rotated) = refl

pub rotation-listed : (r : Rotation) → rotation_listed (rotation_no r) ≡ true
rotation-listed Default = refl
rotation-listed Rotated = refl

pub shape-listed : (s : InsertionShape) → shape_listed (shape_no s) ≡ true
shape-listed AlongCurrentCut = refl
shape-listed AcrossCurrentCut = refl
shape-listed AlongThenAcross = refl
shape-listed AcrossThenAlong = refl

-- ---- and is a byte
pub cut_small : (c : Orientation) → cut_no c < 256
cut_small c = omega (arith, leb-true (cut_no c) 1 (cut-listed c))

pub turn_small : (t : Option Rotation) → turn_no t < 256
turn_small t = omega (arith, leb-true (turn_no t) 2 (turn-listed t))

pub rotation-small : (r : Rotation) → rotation_no r < 256
rotation-small r = omega (arith, leb-true (rotation_no r) 1 (rotation-listed r))

pub shape-small : (s : InsertionShape) → shape_no s < 256
shape-small s =
    omega (arith, leb-true (shape_no s) 4 (both (leb 1 (shape_no s)) (leb (shape_no s) 4) (shape-listed s)).1)

-- ---- it says what it was given for
pub kind-back : (k : Kind) → kind_of (kind_no k) ≡ k
kind-back Free = refl
kind-back Part = refl
kind-back Structure = refl

pub cut-back : (c : Orientation) → cut_of (cut_no c) ≡ c
cut-back Horizontal = refl
cut-back Vertical = refl

pub turn-back : (t : Option Rotation) → turn_of (turn_no t) ≡ t
turn-back None = refl
turn-back (Some Default) = refl
turn-back (Some Rotated) = refl

pub rotation-back : (r : Rotation) → rotation_of (rotation_no r) ≡ r
rotation-back Default = refl
rotation-back Rotated = refl

pub shape-back : (s : InsertionShape) → shape_of (shape_no s) ≡ s
shape-back AlongCurrentCut = refl
shape-back AcrossCurrentCut = refl
shape-back AlongThenAcross = refl
shape-back AcrossThenAlong = refl

-- ---- and a listed number comes back
pub kind-stays : (n : ℕ) → kind_listed n ≡ true → kind_no (kind_of n) ≡ n
kind-stays zero h = refl
kind-stays (suc zero) h = refl
kind-stays (suc (suc zero)) h = refl
kind-stays (suc (suc (suc n))) h = absurd (omega (arith, leb-true (suc (suc (suc n))) 2 h))

pub cut-stays : (n : ℕ) → cut_listed n ≡ true → cut_no (cut_of n) ≡ n
cut-stays zero h = refl
cut-stays (suc zero) h = refl
cut-stays (suc (suc n)) h = absurd (omega (arith, leb-true (suc (suc n)) 1 h))

pub turn-stays : (n : ℕ) → turn_listed n ≡ true → turn_no (turn_of n) ≡ n
turn-stays zero h = refl
turn-stays (suc zero) h = refl
turn-stays (suc (suc zero)) h = refl
turn-stays (suc (suc (suc n))) h = absurd (omega (arith, leb-true (suc (suc (suc n))) 2 h))

pub rotation-stays : (n : ℕ) → rotation_listed n ≡ true → rotation_no (rotation_of n) ≡ n
rotation-stays zero h = refl
rotation-stays (suc zero) h = refl
rotation-stays (suc (suc n)) h = absurd (omega (arith, leb-true (suc (suc n)) 1 h))

pub shape-stays : (n : ℕ) → shape_listed n ≡ true → shape_no (shape_of n) ≡ n
shape-stays zero h = absurd (false≢true h)
shape-stays (suc zero) h = refl
shape-stays (suc (suc zero)) h = refl
shape-stays (suc (suc (suc zero))) h = refl
shape-stays (suc (suc (suc (suc zero)))) h = refl
shape-stays (suc (suc (suc (suc (suc n))))) h =
    let m = suc (suc (suc (suc (suc n)))) in absurd (omega (arith, leb-true m 4 (both (leb 1 m) (leb m 4) h).1))
