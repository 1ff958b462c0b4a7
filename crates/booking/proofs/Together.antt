-- The steps of `book` together: each step's needs follow from `Bookable`, and what they leave is the booking of specs/Book.antt.
-- Assumes nothing.
use mathlib.Core.Path.{◌≡◌, refl}
use mathlib.Core.List.{List, ◌++◌}
use Prim.Native.Nat.{ℕ, ◌+◌, ◌≤◌, ◌<◌}
use native.Mathlib.Omega.{arith}
use lib.ListN.{get_or, length, length-append}
use lib.Seq.{get_or-take}
use Rattle.std.proofs.lemmas.List.{length-take}
use Rattle.lists.specs.Lists.{limit}
use Rattle.piece.specs.declared.size.Size.{Size}
use Rattle.piece.specs.declared.insertion_blueprint.InsertionShape.{InsertionShape}
use Rattle.piece.proofs.Blocks.{new-nodes-few}
use Rattle.tree.specs.ListSteps.{omit, put_all}
use Rattle.table.specs.declared.Node.{Node}
use Rattle.table.specs.Table.{at, unlink}
use Rattle.layout_nodes.specs.declared.listing.Listing.{Listing}
use Rattle.layout_nodes.specs.declared.LayoutNodes.{LayoutNodes}
use Rattle.layout_nodes.specs.Listings.{Kept, area_in, entries_of, listing}
use Rattle.layout_nodes.proofs.Listed.{entries-are, kept-as}
use Rattle.booking.specs.declared.new_nodes.NewNodes.{NewNodes}
use Rattle.booking.specs.declared.new_nodes.Site.{Site}
use Rattle.booking.specs.NewNodes.{append_each, enrolments, frees_of, no_new, those}
use Rattle.booking.specs.Book.{booked_nodes, booked_with, less_parent, new_nodes_at, new_of, new_places, site_left, site_of}
use Rattle.booking.specs.Inner.{Bookable}
use Rattle.booking.proofs.Made.{new-at-count}

module _ (n : LayoutNodes) (x : ℕ) (shape : InsertionShape) (size : Size) (number blade last : ℕ) where
  abbrev gone : List Node
  gone = unlink limit n.nodes x

  abbrev made : NewNodes
  made = new_nodes_at n.nodes gone x shape size number blade last

  abbrev parent : ℕ
  parent = (at n.nodes x).parent

  -- the nodes that the steps make
  pub new_by : (left : List Node) {places : List ℕ} {site : Site} {new : NewNodes} → places ≡ new_places left
      → site ≡ site_left (at n.nodes x) (at left parent) places number blade last → new ≡ new_of (at n.nodes x) site shape size
      → new ≡ new_nodes_at n.nodes left x shape size number blade last
  unfolding new_nodes_at site_of
  new_by left p s e = rw (e, s, p) refl

  module _ (b : Bookable n x shape size number blade last) {left : List Node} {new : NewNodes} (l : left ≡ gone)
      (e : new ≡ new_nodes_at n.nodes left x shape size number blade last) where
    new_is : new ≡ made
    new_is = rw l at e

    -- there are no more than the array holds
    pub new-few : new.count ≤ 5
    new-few = rw (new_is, new-at-count n.nodes gone x shape size number blade last) (new-nodes-few shape)

    -- each comes into the table
    pub plant-needs : (i : ℕ) → i < length (those new) →
        let m = get_or (those new) i no_new in (m.under < limit) × (m.place < limit)
    plant-needs i h =
        let low : i < new.count = omega (arith, length-take new.count new.list) in
        let all : (k : ℕ) → k < new.count → ((get_or new.list k no_new).under < limit) × ((get_or new.list k no_new).place < limit) =
        rw (new_is, new-at-count n.nodes gone x shape size number blade last) b.sited
        in
        rw (get_or-take new.count new.list i no_new low) (all i low)

    -- the free ones come into the free list that the piece has left
    pub put-needs : {less : Listing} → less ≡ listing (omit (entries_of n.free) x) →
        Kept less × (new.count ≤ 5) × (less.count + new.count ≤ limit)
    put-needs c = (
      kept-as (omit (entries_of n.free) x) c (omega (arith, b.free_room)),
      new-few,
      rw (c, new_is, new-at-count n.nodes gone x shape size number blade last) b.free_room,
    )

    -- the new ones come into the removable list that the parent has left if it lost its last child
    pub enrol-needs : {fewer : Listing} → fewer ≡ listing (less_parent left parent (entries_of n.removable)) →
        Kept fewer × (new.count ≤ 5) × (fewer.count + length (enrolments (those new)) ≤ limit)
    enrol-needs {fewer} f =
        let kept = less_parent gone parent (entries_of n.removable) in
        let is : fewer ≡ listing kept = rw l at f in
        let room : length kept + length (enrolments (those made)) ≤ limit = rw length-append at b.removable_room in
        (kept-as kept is (omega (arith, room)), new-few, rw (is, new_is) room)

  module _ {left table : List Node} {new : NewNodes} {less free fewer removable : Listing}
      (l : left ≡ gone)
      (e : new ≡ new_nodes_at n.nodes left x shape size number blade last)
      (t : table ≡ append_each limit left (those new))
      (c : less ≡ listing (omit (entries_of n.free) x))
      (p : free ≡ listing (put_all (area_in table) (entries_of less) (frees_of (those new))))
      (f : fewer ≡ listing (less_parent left parent (entries_of n.removable)))
      (r : removable ≡ listing (entries_of fewer ++ enrolments (those new))) where
    pub booked-by : record { nodes = record { nodes = table; free = free; removable = removable }; new = new }
        ≡ booked_nodes n x shape size number blade last
    unfolding booked_nodes booked_with
    booked-by =
        rw (
          r,
          p,
          entries-are (omit (entries_of n.free) x) c,
          entries-are (less_parent left parent (entries_of n.removable)) f,
          t,
          e,
          l,
        )
        refl
