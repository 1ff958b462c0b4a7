-- Document 02, No. 5: "While some structure other than the top has one child and that is free, it is taken out by the old removal, lowest place first. The
-- tree is the same whichever structure is taken first."
use Rattle.std.specs.Prelude.{◌≡◌, Bool, true, cond, not, ◌&&◌, ℕ, ◌+◌, ◌<◌}
use Rattle.piece.specs.declared.node.Datum.{Datum}
use Rattle.piece.specs.declared.node.Kind.TheVariants.{Free, Structure}
use Rattle.piece.specs.Row.{nil, grow}
use Rattle.piece.specs.Kinds.{is_part, is_structure}
use Rattle.tree.specs.Tree.{Tree, In, At}
use Rattle.tree.specs.Steps.{Kids}
use Rattle.tree.specs.Removal.{settled, cleared, remove}

-- "some structure other than the top", which is at place 0, "has one child and that is free": the piece at x
pub record Untidy (x : ℕ) (t : Tree) : Type 0 where
  pub piece : Datum
  pub there : At x piece t
  pub structure : piece.kind ≡ Structure
  pub below : x ≡ 0 → ⊥
  pub place : ℕ
  pub child : Datum
  pub only : Kids x (grow place child nil nil) t
  pub free : child.kind ≡ Free

-- "lowest place first", of the places that are untidy now
pub record Lowest (x : ℕ) (t : Tree) : Type 0 where
  pub untidy : Untidy x t
  pub lowest : (y : ℕ) → y < x → Untidy y t → ⊥

-- nothing is left to take out
abbrev pub Tidy : Tree → Type 0
Tidy t = (x : ℕ) → Untidy x t → ⊥

-- so many structures are taken out, each untidy when its turn comes, in some order: each new free piece gets an unheld place, and any serial
pub data Takings (limit : ℕ) : Tree → ℕ → Tree → Type 0 where
  none : {t : Tree} → Takings limit t 0 t
  taken : {t u : Tree} {k : ℕ} (x n s : ℕ) → Untidy x t → n < limit → (In n (cleared x t) → ⊥) → Takings limit (remove x n s t) k u
      → Takings limit t (1 + k) u

-- ---- what comes of it, in closed form

-- no part is in the row or below it
abbrev pub partless : Tree → Bool
partless nil = true
partless (grow p d k r) = not (is_part d.kind) && (partless k && partless r)

-- a structure with no part inside
abbrev pub is_empty : Datum → Tree → Bool
is_empty d k = is_structure d.kind && partless k

-- how many there are in a row and below it; and in a tree, where the top doesn't count
abbrev pub empty_in : Tree → ℕ
empty_in nil = 0
empty_in (grow p d k r) = cond (is_empty d k) 1 0 + (empty_in k + empty_in r)

abbrev pub empties : Tree → ℕ
empties nil = 0
empties (grow p d k r) = empty_in k

-- the tidy row: each empty structure goes as the old removal has it, what is inside with it, and everything else stays; the marks don't count
abbrev pub tidy_row : Tree → Tree
tidy_row nil = nil
tidy_row (grow p d k r) = cond (is_empty d k) (settled 0 0 d (tidy_row r)) (grow p d (tidy_row k) (tidy_row r))

-- the tidy tree: the top stays
abbrev pub tidied : Tree → Tree
tidied nil = nil
tidied (grow p d k r) = grow p d (tidy_row k) r
