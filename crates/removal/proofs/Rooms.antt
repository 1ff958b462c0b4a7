-- Room for a removal: the lists do not fill up, and the new free piece is no bigger than a sheet can be. It rests on what is left of the lists
-- (FreeList, RemovableList), on what `layout_nodes` says of the place of the new piece (Family), and on what `tree` says of the sides of a sound
-- tree (Read).
use mathlib.Core.List.{List}
use mathlib.Core.Logic.{inl, inr}
use Prim.Native.Nat.{ℕ, ◌+◌, ◌<◌}
use native.Mathlib.Omega.{arith}
use lib.ListN.{length}
use Rattle.piece.specs.declared.node.Datum.{Datum}
use Rattle.piece.specs.declared.settings.Settings.{Settings}
use Rattle.piece.specs.Row.{nil, grow}
use Rattle.lists.specs.Lists.{limit}
use Rattle.tree.specs.Tree.{Tree, At, count}
use Rattle.tree.specs.Sound.{Sound}
use Rattle.tree.specs.Removal.{remove, cleared}
use Rattle.tree.specs.Apart.{Removable}
use Rattle.tree.specs.ListSteps.{omit_all, strike_all}
use Rattle.tree.specs.Pieces.{FreeList, RemovableList}
use Rattle.tree.specs.Family.{new_place}
use Rattle.tree.proofs.Rows.{at_in}
use Rattle.tree.proofs.Read.{Small, Readable, sound-readable}
use Rattle.tree.proofs.Laws.RemovalSound.{removal-sound}
use Rattle.tree.proofs.Family.{cleared-count, fresh-removal}
use Rattle.table.specs.declared.Node.{Node}
use Rattle.table.specs.Table.{Holds}
use Rattle.table.specs.Steps.{going, unlink_all}
use Rattle.table.specs.Unheld.{lowest_from}
use Rattle.table.proofs.Steps.{clear-sound}
use Rattle.table.proofs.Unheld.{lowest-room}
use Rattle.layout_nodes.proofs.HoldingSteps.{holding-most}
use Rattle.removal.specs.Remove.{new_free}
use Rattle.removal.proofs.Pieces.{new-there}
use Rattle.removal.proofs.FreeList.{cleared-free}
use Rattle.removal.proofs.RemovableList.{cleared-removable}

-- the sides of each piece of a tree that a snapshot can hold
pub sides-small : (i : ℕ) (e : Datum) (l : ℕ) (w : Tree) → Readable l w → At i e w → Small e.size
sides-small i e l nil f h = absurd h
sides-small i e l (grow p d k r) f (inl g) = rw g.1 f.0.small
sides-small i e l (grow p d k r) f (inr (inl h)) = sides-small i e (l + 1) k f.1 h
sides-small i e l (grow p d k r) f (inr (inr h)) = sides-small i e l r f.2 h

module _ (settings : Settings) (t : List Node) (w : Tree) (sound : Sound limit settings w) (h : Holds limit t w)
    (x : ℕ) (z : Removable x w) where
  -- one place is unheld when all that goes has gone
  left-fewer : count (cleared x w) < limit
  left-fewer =
      omega (arith, cleared-count limit settings w sound x (at_in x z.piece w z.there) z.below, sound.room)

  pub free-room : (xs : List ℕ) → FreeList w xs → length (omit_all xs (going t x w)) < limit
  free-room xs f =
      let g = cleared-free limit settings t w sound h x z xs f in
      omega (arith, holding-most _ (cleared x w) (omit_all xs (going t x w)) g.holding, left-fewer)

  pub removable-room : (ys : List ℕ) → RemovableList w ys → length (strike_all ys (going t x w)) < limit
  removable-room ys f =
      let g = cleared-removable settings t w sound h x z ys f in
      omega (arith, holding-most _ (cleared x w) (strike_all ys (going t x w)) g, left-fewer)

  -- the lowest unheld place is one
  pub place-room : lowest_from limit (unlink_all limit t (going t x w)) 0 < limit
  place-room =
      lowest-room limit (unlink_all limit t (going t x w)) 0 (cleared x w) (clear-sound limit settings t w sound h x z)
      (omega (arith, left-fewer))

  -- the new free piece is one of a sound tree
  pub new-small : (last : ℕ) → Small (new_free t x last).size
  new-small last =
      let f = fresh-removal limit settings w sound x z in
      let n = new_place limit (cleared x w) 0 in
      let v = remove x n (last + 1) w in
      sides-small n (new_free t x last) 0 v
      (sound-readable v (removal-sound limit settings w x n (last + 1) sound z f.0 f.1))
      (new-there limit settings t w sound h x z n last)
