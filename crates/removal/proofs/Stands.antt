-- A removal on the nodes and the lists of a layout, as the code makes it, is document 01's: where all stands as "Sound layout" says, all stands
-- again, with the tree and the removable list that the rules give. Assumes nothing.
use mathlib.Core.Path.{◌≡◌, ap, ◌∙◌}
use mathlib.Core.List.{List}
use Prim.Native.Nat.{ℕ, ◌+◌, ◌≤◌, ◌<◌}
use native.Mathlib.Omega.{arith}
use lib.ListN.{length}
use Rattle.piece.specs.declared.node.Datum.{Datum}
use Rattle.piece.specs.declared.settings.Settings.{Settings}
use Rattle.piece.specs.Sides.{area}
use Rattle.lists.specs.Lists.{limit}
use Rattle.tree.specs.Tree.{Tree, In}
use Rattle.tree.specs.Removal.{cleared, remove}
use Rattle.tree.specs.Apart.{Removable}
use Rattle.tree.specs.Sound.{Sound}
use Rattle.tree.specs.Steps.{Marked}
use Rattle.tree.specs.ListSteps.{omit_all, put, strike_all}
use Rattle.tree.specs.Pieces.{pieces_of, Holding, FreeList, RemovableList, max_serial}
use Rattle.tree.specs.Family.{new_place}
use Rattle.tree.specs.Enrolment.{removed_list}
use Rattle.tree.proofs.Rows.{at_in}
use Rattle.tree.proofs.Read.{Small}
use Rattle.tree.proofs.Laws.RemovalSound.{removal-sound}
use Rattle.tree.proofs.Stays.{cleared_at}
use Rattle.tree.proofs.Family.{fresh-removal}
use Rattle.table.specs.declared.Node.{Node}
use Rattle.table.specs.Table.{at, Holds, append}
use Rattle.table.specs.Steps.{going, unlink_all}
use Rattle.table.specs.Unheld.{lowest_from}
use Rattle.table.proofs.Links.{datum-is}
use Rattle.table.proofs.Steps.{clear-sound, remove-sound}
use Rattle.table.proofs.Family.{lowest-is}
use Rattle.layout_nodes.specs.declared.LayoutNodes.{LayoutNodes}
use Rattle.layout_nodes.specs.Listings.{area_in, entries_of}
use Rattle.layout_nodes.specs.Standing.{Stands}
use Rattle.layout_nodes.proofs.Listed.{entries-listing, kept-listing}
use Rattle.layout_nodes.proofs.HoldingSteps.{holding-most, holding-single}
use Rattle.removal.specs.Remove.{new_free, returned, removed_from, removed_nodes}
use Rattle.removal.specs.Inner.{Clearable}
use Rattle.removal.proofs.Pieces.{goes, parent-low, last-low}
use Rattle.removal.proofs.Serials.{remove-serials}
use Rattle.removal.proofs.FreeList.{remove-free}
use Rattle.removal.proofs.RemovableList.{remove-removable, returned-is}
use Rattle.removal.proofs.Rooms.{free-room, removable-room, place-room, new-small}

module _ (settings : Settings) (last : ℕ) (w : Tree) (n : LayoutNodes) (stands : Stands settings last w n) (x : ℕ)
    (z : Removable x w) (spent : last + 1 ≤ max_serial) where
  -- what goes
  abbrev g : List ℕ
  g = going n.nodes x w

  abbrev left : List Node
  left = unlink_all limit n.nodes g

  gone : Holds limit left (cleared x w)
  gone = clear-sound limit settings n.nodes w stands.sound stands.holds x z

  marked : Marked (cleared x w)
  marked i e y = let h = stands.serials.least i e (cleared_at i e x w y) in omega arith

  datum : (at n.nodes x).datum ≡ z.piece
  datum = datum-is limit n.nodes limit limit x z.piece w stands.holds.rep z.there

  -- the place of the new free piece
  abbrev pub place : ℕ
  place = new_place limit (cleared x w) 0

  place_is : lowest_from limit left 0 ≡ place
  place_is = lowest-is limit left (cleared x w) gone marked 0

  place-low : place < limit
  place-low = (fresh-removal limit settings w stands.sound x z).0

  place-new : In place (cleared x w) → ⊥
  place-new = (fresh-removal limit settings w stands.sound x z).1

  abbrev after : Tree
  after = remove x place (last + 1) w

  sound-is : Sound limit settings after
  sound-is = removal-sound limit settings w x place (last + 1) stands.sound z place-low place-new

  abbrev table : List Node
  table = append limit left (at n.nodes x).parent place (new_free n.nodes x last)

  table_is : Holds limit table after
  unfolding new_free
  table_is =
      rw datum (remove-sound limit settings n.nodes w stands.sound stands.holds x z place (last + 1) place-low place-new)

  abbrev frees : List ℕ
  frees = put (area_in table) (omit_all (entries_of n.free) g) place

  free-is : FreeList after frees
  free-is =
      remove-free limit settings n.nodes w stands.sound stands.holds x z (entries_of n.free) stands.free place last place-new
      stands.serials (area_in table)
      (λ i e y. ap (λ (f : Datum). area f.size) (datum-is limit table limit limit i e after table_is.rep y))

  abbrev solids : List ℕ
  solids = let q = (at n.nodes x).parent in returned (at left q) q (strike_all (entries_of n.removable) g)

  solid-is : RemovableList after solids
  solid-is =
      remove-removable settings n.nodes w stands.sound stands.holds x z (entries_of n.removable) stands.removable place last
      place-new

  rooms : (P : Datum → Type 0) (l : List ℕ) → Holding P (pieces_of after) l → length l ≤ limit
  rooms P l h = omega (arith, holding-most P after l h, sound-is.room)

  -- no index is out of bounds, nothing overflows, and no list names a place twice
  pub remove-clearable : Clearable n g x last
  remove-clearable =
      record {
        placed = stands.sound.placed x (at_in x z.piece w z.there);
        hung = parent-low limit settings n.nodes w stands.sound stands.holds x z;
        ended = last-low limit settings n.nodes w stands.sound stands.holds x z;
        free_kept = stands.free_kept;
        removable_kept = stands.removable_kept;
        free_single = holding-single _ w (entries_of n.free) stands.free.holding stands.sound.placed;
        removable_single = holding-single _ w (entries_of n.removable) stands.removable stands.sound.placed;
        goes = goes limit settings n.nodes w stands.sound stands.holds x z;
        some = place-room settings n.nodes w stands.sound stands.holds x z;
        free_room = free-room settings n.nodes w stands.sound stands.holds x z (entries_of n.free) stands.free;
        removable_room =
            removable-room settings n.nodes w stands.sound stands.holds x z (entries_of n.removable) stands.removable;
        wide = let s = small.width in omega arith;
        tall = let s = small.height in omega arith;
        spent = let s = spent in omega arith;
      }
    where
      small : Small (new_free n.nodes x last).size
      small = new-small settings n.nodes w stands.sound stands.holds x z last

  -- all stands again
  pub remove-stands : Stands settings (last + 1) after (removed_nodes n g x last).nodes
  unfolding removed_nodes removed_from
  remove-stands =
      rw place_is
      (record {
        sound = sound-is;
        holds = table_is;
        free = rw (entries-listing frees) free-is;
        removable = rw (entries-listing solids) solid-is;
        free_kept = kept-listing frees (rooms _ frees free-is.holding);
        removable_kept = kept-listing solids (rooms _ solids solid-is);
        serials =
            remove-serials limit settings n.nodes w stands.sound stands.holds x z place last place-new stands.serials spent;
      })

  pub remove-place : (removed_nodes n g x last).place ≡ place
  unfolding removed_nodes removed_from
  remove-place = place_is

  pub remove-list : entries_of (removed_nodes n g x last).nodes.removable ≡ removed_list limit x w (entries_of n.removable)
  unfolding removed_nodes removed_from
  remove-list =
      entries-listing solids
      ∙ returned-is settings n.nodes w stands.sound stands.holds x z (entries_of n.removable) stands.removable place last place-new
