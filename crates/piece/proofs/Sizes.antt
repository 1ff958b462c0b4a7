-- Laws of sizes: what stays of a size, whatever cut it is laid by, and how great its area can be.
use mathlib.Core.Path.{◌≡◌, refl, subst⁻¹}
use mathlib.Core.Bool.{true, and_comm}
use Prim.Native.Nat.{ℕ, ◌+◌, ◌*◌, ◌^◌, ◌≤◌, ◌<◌}
use native.Mathlib.Nat.{mul_comm, lt_of_le_of_lt, mul-le-mul_left, mul-lt-mul_of_pos_right, le_of_lt}
use native.Mathlib.Omega.{arith}
use lib.Dec.{leb}
use lib.Pow.{pow-add, pow_pos}
use borrow.Author.Tests.{leb-true}
use Rattle.piece.specs.declared.orientation.Orientation.{Orientation}
use Rattle.piece.specs.declared.orientation.Orientation.TheVariants.{Horizontal, Vertical}
use Rattle.piece.specs.declared.size.Size.{Size}
use Rattle.piece.specs.Sides.{other, exchanged, laid, area}
use Rattle.piece.specs.Offers.{fits}
use Rattle.piece.proofs.Tests.{both}

pub other-twice : (c : Orientation) → other (other c) ≡ c
other-twice Horizontal = refl
other-twice Vertical = refl

-- a size of the tables, laid as the piece lies, is laid back by the same cut
pub laid-twice : (c : Orientation) (s : Size) → laid c (laid c s) ≡ s
laid-twice Horizontal s = refl
laid-twice Vertical s = refl

-- and by the other cut it lies across
pub laid-other : (c : Orientation) (s : Size) → laid (other c) (laid c s) ≡ exchanged s
laid-other Horizontal s = refl
laid-other Vertical s = refl

area-exchanged : (s : Size) → area (exchanged s) ≡ area s
area-exchanged s = mul_comm s.height s.width

pub area-laid : (c : Orientation) (s : Size) → area (laid c s) ≡ area s
area-laid Horizontal s = refl
area-laid Vertical s = area-exchanged s

-- a part fits a piece exactly where it fits as the tables write both
pub fits-laid : (c : Orientation) (piece part : Size) → fits (laid c piece) (laid c part) ≡ fits piece part
fits-laid Horizontal piece part = refl
fits-laid Vertical piece part = and_comm (leb part.height piece.height) (leb part.width piece.width)

pub fits-sides : (piece part : Size) → fits piece part ≡ true → (part.width ≤ piece.width) × (part.height ≤ piece.height)
fits-sides piece part f =
    let b = both (leb part.width piece.width) (leb part.height piece.height) f in
    (leb-true _ _ b.0, leb-true _ _ b.1)

-- the product of two numbers of k bits has 2 k bits
pub below : (k : ℕ) {a b : ℕ} → a < 2 ^ k → b < 2 ^ k → a * b < 2 ^ (k + k)
below k {a} {b} ha hb =
    subst⁻¹ (λ (n : ℕ). a * b < n) (pow-add 2 k k)
    (lt_of_le_of_lt (mul-le-mul_left a (le_of_lt hb)) (mul-lt-mul_of_pos_right ha (pow_pos k)))

-- "areas stay below 2^52" for the sides of the domain
pub area_small : (s : Size) → s.width ≤ 67108863 → s.height ≤ 67108863 → area s < 2 ^ 52
area_small s w h = below 26 (omega arith) (omega arith)
