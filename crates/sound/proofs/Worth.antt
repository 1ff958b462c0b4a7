-- A sum over the places of a table is the same sum over the pieces of the tree that it holds: the area of the parts, the area of the free
-- pieces, and the number of nodes. It rests on table's law of such sums (Everywhere).
use mathlib.Core.Path.{◌≡◌, refl, ◌∙◌}
use mathlib.Core.List.{List}
use mathlib.Core.Bool.{Bool, cond}
use mathlib.Core.Logic.{inl, inr}
use Prim.Native.Nat.{ℕ, zero, suc, ◌<◌}
use native.Mathlib.Omega.{arith}
use lib.Dec.{eqb}
use lib.ListN.{get_or, get_or-map}
use borrow.Author.Tests.{ne_eqb}
use Rattle.piece.specs.declared.node.Datum.{Datum}
use Rattle.piece.specs.declared.node.Kind.{Kind}
use Rattle.piece.specs.declared.node.Kind.TheVariants.{Free, Part, Structure}
use Rattle.piece.specs.Sides.{area}
use Rattle.piece.specs.Row.{nil, grow}
use Rattle.piece.specs.Kinds.{is_free, is_part}
use Rattle.piece.specs.Numbers.{kind_no}
use Rattle.tree.specs.Tree.{Tree, At, count}
use Rattle.tree.specs.Figures.{area_of_kind, part_area, free_area}
use Rattle.table.specs.declared.Node.{Node}
use Rattle.table.specs.Table.{zero_node, at, Holds}
use Rattle.table.specs.Columns as columns
use Rattle.table.proofs.Everywhere.{sum, worth, holds-worth}
use Rattle.sound.specs.Listed.{held_in, area_listed}
use Rattle.sound.specs.Columns.{areas_of, serials_of, kinds_of}

-- the area of a piece of the kind with this number, and one for a held piece
kind_area : ℕ → Datum → ℕ
kind_area κ d = cond (eqb (kind_no d.kind) κ) (area d.size) 0

one : Datum → ℕ
one d = cond (eqb d.serial 0) 0 1

module _ (t : List Node) where
  pub serial-at : (i : ℕ) → get_or (serials_of t) i 0 ≡ (at t i).datum.serial
  serial-at i = get_or-map columns.serial_of t i zero_node

  pub kind_at : (i : ℕ) → get_or (kinds_of t) i 0 ≡ kind_no (at t i).datum.kind
  kind_at i = get_or-map columns.kind_no_of t i zero_node

  pub area-at : (i : ℕ) → get_or (areas_of t) i 0 ≡ area (at t i).datum.size
  area-at i = get_or-map columns.area_of t i zero_node

  area-sum : (κ n : ℕ) → area_listed κ (kinds_of t) (areas_of t) n ≡ sum (λ i. kind_area κ (at t i).datum) n
  unfolding area_listed kind_area
  area-sum κ zero = refl
  area-sum κ (suc n) = rw (area-sum κ n, kind_at n, area-at n) refl

  held-sum : (n : ℕ) → held_in (serials_of t) n ≡ sum (λ i. one (at t i).datum) n
  unfolding held_in one
  held-sum zero = refl
  held-sum (suc n) = rw (held-sum n, serial-at n) refl

area-worth : (κ : ℕ) (g : Kind → Bool) → ((k : Kind) → eqb (kind_no k) κ ≡ g k) → (w : Tree) → worth (kind_area κ) w ≡ area_of_kind g w
unfolding kind_area
area-worth κ g e nil = refl
area-worth κ g e (grow p d k r) =
    rw (e d.kind, area-worth κ g e k, area-worth κ g e r) refl

count-worth : (w : Tree) → ((i : ℕ) (e : Datum) → At i e w → 0 < e.serial) → worth one w ≡ count w
unfolding one
count-worth nil s = refl
count-worth (grow p d k r) s =
    let here = s p d (inl (refl, refl)) in
    rw (ne_eqb d.serial 0 (λ e. omega arith), count-worth k (λ i e h. s i e (inr (inl h))), count-worth r (λ i e h. s i e (inr (inr h)))) refl

module _ (limit : ℕ) (t : List Node) (w : Tree) (h : Holds limit t w) where
  -- "used area is the sum over parts"
  pub holds-part-area : area_listed 1 (kinds_of t) (areas_of t) limit ≡ part_area w
  holds-part-area = area-sum t 1 limit ∙ holds-worth (kind_area 1) limit t w (unfold kind_area in refl) h ∙ area-worth 1 is_part parts w
    where
      parts : (k : Kind) → eqb (kind_no k) 1 ≡ is_part k
      parts Free = refl
      parts Part = refl
      parts Structure = refl

  -- "Free area is the sum of width times height over the free pieces"
  pub holds-free-area : area_listed 0 (kinds_of t) (areas_of t) limit ≡ free_area w
  holds-free-area = area-sum t 0 limit ∙ holds-worth (kind_area 0) limit t w (unfold kind_area in refl) h ∙ area-worth 0 is_free frees w
    where
      frees : (k : Kind) → eqb (kind_no k) 0 ≡ is_free k
      frees Free = refl
      frees Part = refl
      frees Structure = refl

  -- the nodes held
  pub holds-count : ((i : ℕ) (e : Datum) → At i e w → 0 < e.serial) → held_in (serials_of t) limit ≡ count w
  holds-count s = held-sum t limit ∙ holds-worth one limit t w (unfold one in refl) h ∙ count-worth w s
