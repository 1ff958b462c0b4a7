-- Document 01, "Sound layout": the two lists and the serials, against the pieces that there are. The pieces are given by what stands at each
-- place, so that the same words serve a tree and what is left of it half way through a step.
use Rattle.std.specs.Prelude.{◌≡◌, List, false, ◌⊎◌, ℕ, ◌≤◌, ◌<◌, get_or, length}
use Rattle.piece.specs.declared.node.Datum.{Datum}
use Rattle.piece.specs.declared.node.Kind.TheVariants.{Free}
use Rattle.piece.specs.Sides.{area}
use Rattle.piece.specs.Kinds.{is_free}
use Rattle.tree.specs.Tree.{Tree, At}

-- the greatest serial
abbrev pub max_serial : ℕ
max_serial = 1000000

-- what stands at each place
abbrev pub Pieces : Type 1
Pieces = ℕ → Datum → Type 0

-- the pieces of a tree
abbrev pub pieces_of : Tree → Pieces
pieces_of w p d = At p d w

-- "greatest area first, equal areas by rising serial": d comes before e
abbrev pub Before : Datum → Datum → Type 0
Before d e = (area e.size < area d.size) ⊎ ((area d.size ≡ area e.size) × (d.serial < e.serial))

-- the list holds the places of the pieces of which P holds, each once
pub record Holding (P : Datum → Type 0) (A : Pieces) (l : List ℕ) : Type 0 where
  pub each : (k : ℕ) → k < length l → (d : Datum) × A (get_or l k 0) d × P d
  pub all : (p : ℕ) (d : Datum) → A p d → P d → (k : ℕ) × (k < length l) × (get_or l k 0 ≡ p)
  pub once : (j k : ℕ) → j < length l → k < length l → get_or l j 0 ≡ get_or l k 0 → j ≡ k

-- "the free list holds every free piece once, greatest area first, equal areas by rising serial"
pub record FreeOf (A : Pieces) (l : List ℕ) : Type 0 where
  pub holding : Holding (λ (d : Datum). d.kind ≡ Free) A l
  pub order : (j k : ℕ) → j < k → k < length l → (d e : Datum) → A (get_or l j 0) d → A (get_or l k 0) e → Before d e

-- "the removable list holds every part and structure once, in any order"
abbrev pub SolidOf : Pieces → List ℕ → Type 0
SolidOf A l = Holding (λ (d : Datum). is_free d.kind ≡ false) A l

abbrev pub FreeList : Tree → List ℕ → Type 0
FreeList w l = FreeOf (pieces_of w) l

abbrev pub RemovableList : Tree → List ℕ → Type 0
RemovableList w l = SolidOf (pieces_of w) l

-- "live serials differ, are at least 1 and at most the last serial issued, itself at most 1,000,000"
pub record Serials (w : Tree) (last : ℕ) : Type 0 where
  pub differ : (i j : ℕ) (d e : Datum) → At i d w → At j e w → d.serial ≡ e.serial → i ≡ j
  pub least : (i : ℕ) (d : Datum) → At i d w → 1 ≤ d.serial
  pub most : (i : ℕ) (d : Datum) → At i d w → d.serial ≤ last
  pub spent : last ≤ max_serial
