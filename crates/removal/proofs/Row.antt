-- The row of the piece that goes: its parent, its siblings and what is below it; and, by that row, what goes, what is left and what comes. It
-- rests on what `table` says of the row of a piece that can be removed (Steps, Removal).
use mathlib.Core.Path.{◌≡◌, refl}
use mathlib.Core.List.{List, ◌++◌}
use Prim.Native.Nat.{ℕ, ◌+◌}
use Rattle.piece.specs.declared.node.Datum.{Datum}
use Rattle.piece.specs.declared.settings.Settings.{Settings}
use Rattle.piece.specs.Row.{nil, grow}
use Rattle.tree.specs.Tree.{Tree, after}
use Rattle.tree.specs.Sound.{Sound}
use Rattle.tree.specs.Removal.{freed, board, last_free, without_last, settled, remove, cleared}
use Rattle.tree.specs.Apart.{Removable}
use Rattle.tree.specs.Steps.{Kids, leaving}
use Rattle.tree.proofs.Kids.{put}
use Rattle.tree.proofs.Goes.{cleared-put, remove-put}
use Rattle.tree.proofs.Spots.{free_end, FreeLeaves}
use Rattle.table.specs.declared.Node.{Node}
use Rattle.table.specs.Table.{at, Holds}
use Rattle.table.specs.Steps.{going, free_last_datum}
use Rattle.table.proofs.Links.{datum-is}
use Rattle.table.proofs.Removal.{end_is}
use Rattle.table.proofs.Steps.{parent_is, spot, row, leaves, going-row}
use Rattle.removal.specs.Remove.{new_free}

-- the piece d at x, in the tree w of the table t
pub record RowOf (t : List Node) (x : ℕ) (d : Datum) (w : Tree) : Type 0 where
  pub parent : ℕ
  pub before : Tree
  pub below : Tree
  pub behind : Tree
  pub kids : Kids parent (after before (grow x d below behind)) w
  pub leaves : FreeLeaves behind
  pub hangs : (at t x).parent ≡ parent
  pub shown : (at t x).datum ≡ d
  pub end : last_free behind ≡ free_last_datum t parent
  pub goes : going t x w ≡ leaving (grow x d below nil) ++ free_end behind
  pub left : cleared x w ≡ put parent (after before (without_last behind)) w
  pub comes : (n s : ℕ) → remove x n s w ≡ put parent (after before (settled n s d behind)) w

module _ (t : List Node) (x : ℕ) (d : Datum) (w : Tree) (o : RowOf t x d w) where
  -- what the row was, and what is left of it
  abbrev pub whole : Tree
  whole = after o.before (grow x d o.below o.behind)

  abbrev pub rest : Tree
  rest = after o.before (without_last o.behind)

  -- the free piece that comes
  pub new_is : (last : ℕ) → new_free t x last ≡ freed (last + 1) d (board d (last_free o.behind))
  unfolding new_free
  new_is last = rw (o.shown, o.hangs, o.end) refl

pub row_of : (limit : ℕ) (settings : Settings) (t : List Node) (w : Tree) → Sound limit settings w → Holds limit t w
    → (x : ℕ) (z : Removable x w) → RowOf t x z.piece w
row_of limit settings t w sound h x z =
    let s = spot limit settings t w sound h x z in
    let r = row limit settings t w sound h x z in
    let d = z.piece in
    record {
      parent = s.parent;
      before = s.before;
      below = s.below;
      behind = s.behind;
      kids = r;
      leaves = leaves limit settings t w sound h x z;
      hangs = parent_is limit settings t w sound h x s;
      shown = datum-is limit t limit limit x d w h.rep z.there;
      end = (end_is limit t s.parent x s.before d s.below s.behind w h r z.solid).1;
      goes = going-row limit settings t w sound h x z;
      left = cleared-put s.parent x s.before d s.below s.behind w h.distinct r;
      comes = remove-put s.parent x s.before d s.below s.behind w h.distinct r;
    }
