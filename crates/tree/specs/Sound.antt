-- Document 01, "Sound layout", as far as a tree can say it, with what document 02, No. 4, adds. Each clause is a named field.
use Rattle.std.specs.Prelude.{◌≡◌, ℕ, ◌+◌, ◌≤◌, ◌<◌}
use Rattle.piece.specs.declared.size.Size.{Size}
use Rattle.piece.specs.declared.settings.Settings.{Settings}
use Rattle.piece.specs.declared.orientation.Orientation.{Orientation}
use Rattle.piece.specs.declared.node.Datum.{Datum}
use Rattle.piece.specs.declared.node.Kind.{Kind}
use Rattle.piece.specs.declared.node.Kind.TheVariants.{Free, Part, Structure}
use Rattle.piece.specs.Sides.{other, laid}
use Rattle.piece.specs.Row.{nil, grow}
use Rattle.tree.specs.Tree.{Tree, In, Distinct, count}

-- "sheet and part sides 1..67,108,863", "stages 1..254", "part numbers 0..65,535", "a blade width 0..100"
abbrev pub max_side : ℕ
max_side = 67108863

abbrev pub max_stages : ℕ
max_stages = 254

abbrev pub max_number : ℕ
max_number = 65535

abbrev pub max_blade : ℕ
max_blade = 100

-- "sheet sides, stages and numbers are in the domain"
pub record Domain (settings : Settings) : Type 0 where
  pub wide : 1 ≤ settings.sheet.width
  pub tall : 1 ≤ settings.sheet.height
  pub width : settings.sheet.width ≤ max_side
  pub height : settings.sheet.height ≤ max_side
  pub least : 1 ≤ settings.stages
  pub most : settings.stages ≤ max_stages
  pub blade : settings.blade ≤ max_blade

-- what a piece with the cut c takes of the side that its parent's cut, the other one, divides: its own, and what was eaten behind it
abbrev pub reach : Orientation → Datum → ℕ
reach c d = (laid c d.size).width + d.eaten

-- "extents of siblings plus what was eaten add to the parent's"
abbrev pub extent : Orientation → Tree → ℕ
extent c nil = 0
extent c (grow p d k r) = reach c d + extent c r

-- "parts and structures have sides of at least 1"
pub record Sided (s : Size) : Type 0 where
  pub wide : 1 ≤ s.width
  pub tall : 1 ≤ s.height

-- "a parent has at most one free child, and it is last"; "the part number of a non-part [is] zero"
pub record FreePiece (d : Datum) (k r : Tree) : Type 0 where
  pub childless : k ≡ nil
  pub last : r ≡ nil
  pub unnumbered : d.number ≡ 0

pub record PartPiece (d : Datum) (k : Tree) : Type 0 where
  pub childless : k ≡ nil
  pub sided : Sided d.size
  pub numbered : d.number ≤ max_number

-- "under a Vertical cut .. their widths add to its width, under a Horizontal cut the reverse"
pub record StructurePiece (d : Datum) (k : Tree) : Type 0 where
  pub parent : k ≡ nil → ⊥
  pub sided : Sided d.size
  pub filled : extent (other d.cut) k ≡ (laid (other d.cut) d.size).width
  pub unnumbered : d.number ≡ 0

-- a piece of this kind, with its children and its later siblings
abbrev pub Kinded : Kind → Datum → Tree → Tree → Type 0
Kinded Free d k r = FreePiece d k r
Kinded Part d k r = PartPiece d k
Kinded Structure d k r = StructurePiece d k

-- "a child's level is its parent's plus 1 and at most the stages; a child's cut is the other one; under a Vertical cut children have the
-- parent's height .., under a Horizontal cut the reverse"; "No recorded amount exceeds the blade width"
pub record Child (settings : Settings) (q d : Datum) : Type 0 where
  pub level : d.level ≡ q.level + 1
  pub stage : d.level ≤ settings.stages
  pub cut : d.cut ≡ other q.cut
  pub side : (laid d.cut d.size).height ≡ (laid d.cut q.size).height
  pub eaten : d.eaten ≤ settings.blade

-- a row of children of q: its first piece, those below that one, and those beside it; "each last child record[s] 0"
abbrev pub Children : Settings → Datum → Tree → Type 0
Children settings q nil = Unit {0}
Children settings q (grow p d k r) =
    record {
      child : Child settings q d;
      kinded : Kinded d.kind d k r;
      ends : r ≡ nil → d.eaten ≡ 0;
      below : Children settings d k;
      beside : Children settings q r;
    }

-- "the top is at place 0 and level 0, is no part, has the sheet's size and at least one child"; "the top .. record[s] 0"
pub record Top (settings : Settings) (p : ℕ) (d : Datum) (k r : Tree) : Type 0 where
  pub place : p ≡ 0
  pub alone : r ≡ nil
  pub level : d.level ≡ 0
  pub kind : d.kind ≡ Structure
  pub size : d.size ≡ settings.sheet
  pub eaten : d.eaten ≡ 0
  pub piece : StructurePiece d k

abbrev pub Topped : Settings → Tree → Type 0
Topped settings nil = ⊥
Topped settings (grow p d k r) = Top settings p d k r × Children settings d k

-- the limit is document 01's 255 today: "2..255 nodes", places below it
pub record Sound (limit : ℕ) (settings : Settings) (t : Tree) : Type 0 where
  pub domain : Domain settings
  pub topped : Topped settings t
  pub room : count t ≤ limit
  pub placed : (i : ℕ) → In i t → i < limit
  pub distinct : Distinct t
