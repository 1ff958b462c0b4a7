-- A layout that is sound stands as the steps of a booking and a removal want it; what stands is a sound layout again; and document 01's words
-- determine the next layout. Assumes nothing.
use mathlib.Core.Path.{◌≡◌, refl, sym, ap, ◌∙◌}
use mathlib.Core.List.{List}
use Prim.Native.Nat.{ℕ}
use lib.ListN.{length, take, take-append-drop}
use lib.Seq.{length-take-le}
use Rattle.tree.specs.Tree.{Tree, count}
use Rattle.tree.specs.Figures.{part_area}
use Rattle.table.proofs.Steps.{sound-tree}
use Rattle.lists.specs.Lists.{padded}
use Rattle.lists.proofs.Padded.{length-padded, drop-padded}
use Rattle.layout_nodes.specs.declared.listing.Listing.{Listing}
use Rattle.layout_nodes.specs.declared.LayoutNodes.{LayoutNodes}
use Rattle.layout_nodes.specs.Listings.{Kept, entries_of}
use Rattle.layout_nodes.specs.Standing.{Stands}
use Rattle.layout_nodes.proofs.Listed.{length-entries, room-entries}
use Rattle.layout.specs.declared.layout.Layout.{Layout}
use Rattle.layout.specs.Check.{limit, tree}
use Rattle.layout.specs.SoundLayout.{Counted, SoundLayout, Sized}
use Rattle.layout.specs.Parts.{nodes_of, with_nodes}
use Rattle.layout.specs.Next.{Next}
use Rattle.layout.proofs.Unique.{determined-layout}

-- ---- a list as it is kept

kept-list : (l : List ℕ) (n : ℕ) → length l ≡ limit → Counted l n → Kept (record { list = l; count = n })
unfolding padded
kept-list l n e c =
    let z : length (take n l) ≡ n = length-take-le n l (rw e c.room) in
    let p : l ≡ padded limit (take n l) = sym (take-append-drop n l) ∙ rw (c.tail, z) refl in
    record { room = c.room; zeros = λ i. record { list = p i; count = sym z i } }

counted-list : (l : Listing) → Kept l → (length l.list ≡ limit) × Counted l.list l.count
counted-list l k =
    let xs = entries_of l in
    let same : l.list ≡ padded limit xs = ap (λ (m : Listing). m.list) k.zeros in
    let many : length xs ≡ l.count = length-entries k in (
      rw same (length-padded limit xs (room-entries k)),
      record { room = k.room; tail = rw same (rw many at (drop-padded limit xs)) },
    )

-- ---- the layout

pub layout-stands : (l : Layout) → Sized l → SoundLayout l → Stands l.settings l.serial (tree l) (nodes_of l)
layout-stands l s h =
    record {
      sound = h.sound;
      holds = h.holds;
      free = h.free;
      removable = h.removable;
      free_kept = kept-list l.free l.frees s.free h.free_tail;
      removable_kept = kept-list l.removable l.removables s.removable h.removable_tail;
      serials = h.serials;
    }

module _ (l : Layout) (last : ℕ) (w : Tree) (n : LayoutNodes) (stands : Stands l.settings last w n) (held used : ℕ)
    (counts : held ≡ count w) (covers : used ≡ part_area w) where
  abbrev next : Layout
  next = with_nodes l n held used last

  same-tree : tree next ≡ w
  same-tree = sound-tree limit l.settings n.nodes w stands.sound stands.holds

  sound : SoundLayout next
  sound =
      record {
        sound = rw same-tree stands.sound;
        holds = rw same-tree stands.holds;
        held = rw same-tree counts;
        used = rw same-tree covers;
        free = rw same-tree stands.free;
        removable = rw same-tree stands.removable;
        free_tail = (counted-list n.free stands.free_kept).1;
        removable_tail = (counted-list n.removable stands.removable_kept).1;
        serials = rw same-tree stands.serials;
      }

  pub stands-next : Next l w (entries_of n.removable) last next
  stands-next =
      record {
        sound = sound;
        sized =
            record {
              nodes = stands.holds.len;
              free = (counted-list n.free stands.free_kept).0;
              removable = (counted-list n.removable stands.removable_kept).0;
            };
        tree = same-tree;
        removable = refl;
        serial = refl;
        number = refl;
        settings = refl;
      }

-- there is only one
pub next-is-one : (l : Layout) (w : Tree) (list : List ℕ) (last : ℕ) (m n : Layout) → Next l w list last m → Next l w list last n → m ≡ n
next-is-one l w list last m n a b =
    determined-layout m n a.sized b.sized a.sound b.sound (a.tree ∙ sym b.tree) (a.removable ∙ sym b.removable)
    (a.number ∙ sym b.number) (a.settings ∙ sym b.settings) (a.serial ∙ sym b.serial)
