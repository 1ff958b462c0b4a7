-- What a cut leaves of a board: slices of it, laid as the way of the cut says. The one file of the saw's laws that looks at the way.
use mathlib.Core.Path.{◌≡◌, refl, sym, ap, ◌∙◌}
use mathlib.Core.Bool.{true, ◌&&◌}
use mathlib.Core.List.{[], ◌∷◌}
use Prim.Native.Nat.{ℕ, ◌+◌, ◌*◌, ◌-◌, ◌≤◌}
use native.Mathlib.Nat.{mul-pos}
use native.Mathlib.Omega.{arith}
use lib.Dec.{ltb, leb}
use borrow.Author.Tests.{ne_eqb, lt-ltb, le-leb}
use Rattle.piece.specs.declared.orientation.Orientation.{Orientation}
use Rattle.piece.specs.declared.orientation.Orientation.TheVariants.{Horizontal, Vertical}
use Rattle.piece.specs.declared.size.Size.{Size}
use Rattle.piece.specs.declared.node.Datum.{Datum}
use Rattle.piece.specs.Sides.{area, laid, other, sized}
use Rattle.tree.specs.Sound.{Sided, max_side}
use Rattle.tree.proofs.Areas.{area-laid}
use Rattle.tree.proofs.Laying.{laid-sided}
use Rattle.tree.proofs.Pieces.{sided}
use Rattle.tree.proofs.Read.{Small}
use Rattle.saw.specs.Saw.{side, slice, with_area}

-- ---- sides of a slice

slice-own : (way : Orientation) (s : Size) → slice way (side way s) s ≡ s
slice-own Horizontal s = refl
slice-own Vertical s = refl

pub slice-side : (way : Orientation) (n : ℕ) (s : Size) → side way (slice way n s) ≡ n
slice-side Horizontal n s = refl
slice-side Vertical n s = refl

pub slice-height : (way : Orientation) (n : ℕ) (s : Size) → (laid (other way) (slice way n s)).height ≡ (laid (other way) s).height
slice-height Horizontal n s = refl
slice-height Vertical n s = refl

pub side-small : (way : Orientation) {s : Size} → Small s → side way s ≤ max_side
side-small Horizontal h = h.height
side-small Vertical h = h.width

-- a piece that has the board's other side is a slice of it
pub is_slice : (way : Orientation) (x s : Size) → (laid (other way) x).height ≡ (laid (other way) s).height → x ≡ slice way (side way x) s
is_slice way x s e = sym (slice-own way x) ∙ ap (λ (n : ℕ). laid (other way) (sized (side way x) n)) e

pub is_whole : (way : Orientation) (x s : Size) → (laid (other way) x).height ≡ (laid (other way) s).height → side way x ≡ side way s → x ≡ s
is_whole way x s e f = is_slice way x s e ∙ ap (λ (n : ℕ). slice way n s) f ∙ slice-own way s

-- ---- area

pub sided-area : {s : Size} → Sided s → area s ≡ 0 → ⊥
sided-area h e = omega (arith, mul-pos h.wide h.tall)

pub flat-area : (c : Orientation) (s : Size) → (laid c s).width ≡ 0 → area s ≡ 0
flat-area c s e = let z : 0 * (laid c s).height ≡ area s = rw e at (area-laid c s) in omega arith

pub with-area : {s : Size} → Sided s → with_area s ≡ s ∷ []
with-area {s} h = rw (ne_eqb (area s) 0 (sided-area h)) refl

pub sided-side : (way : Orientation) {s : Size} → Sided s → 1 ≤ side way s
sided-side way b = (laid-sided (other way) b).wide

pub sides-sided : (way : Orientation) (s : Size) → 1 ≤ side way s → 1 ≤ (laid (other way) s).height → Sided s
sides-sided Horizontal s h g = sided g h
sides-sided Vertical s h g = sided h g

-- ---- a piece that is cut off, and what is left of the board

abbrev pub remnant : Orientation → Size → Datum → Size
remnant way s d = slice way (side way s - (side way d.size + d.eaten)) s

pub record Off (way : Orientation) (s : Size) (d : Datum) : Type 0 where
  pub board : Sided s
  pub part : d.size ≡ slice way (side way d.size) s
  pub some : 1 ≤ side way d.size
  pub within : side way d.size + d.eaten ≤ side way s

pub off-can : {way : Orientation} {s : Size} {d : Datum} → Off way s d
    → (ltb 0 (side way d.size) && leb (side way d.size + d.eaten) (side way s)) ≡ true
off-can {way} {s} {d} h = rw (lt-ltb 0 (side way d.size) h.some, le-leb (side way d.size + d.eaten) (side way s) h.within) refl
