-- A booking on the nodes and the lists of a layout, as the code makes it, is document 01's: where all stands as "Sound layout" says and the part
-- fits, all stands again, with the tree and the removable list that the rules give. Assumes nothing.
use mathlib.Core.Path.{◌≡◌, refl, sym, ap, ◌∙◌}
use mathlib.Core.Bool.{Bool, true, false}
use mathlib.Core.List.{List, [], ◌∷◌, ◌++◌, append_assoc}
use mathlib.Core.Logic.{inl, inr}
use Prim.Native.Nat.{ℕ, zero, suc, ◌+◌, ◌≤◌, ◌<◌}
use native.Mathlib.Omega.{arith}
use lib.ListN.{get_or, length}
use Rattle.piece.specs.declared.size.Size.{Size}
use Rattle.piece.specs.declared.node.Datum.{Datum}
use Rattle.piece.specs.declared.node.Kind.TheVariants.{Free, Structure}
use Rattle.piece.specs.declared.insertion_blueprint.InsertionShape.{InsertionShape}
use Rattle.piece.specs.declared.insertion_blueprint.InsertionShape.TheVariants.{AlongCurrentCut, AcrossCurrentCut, AlongThenAcross, AcrossThenAlong}
use Rattle.piece.specs.declared.settings.Settings.{Settings}
use Rattle.piece.specs.Insertion.{block_of, new_nodes, table}
use Rattle.piece.specs.Sides.{area}
use Rattle.piece.specs.Row.{nil, grow}
use Rattle.piece.specs.Kinds.{is_part}
use Rattle.piece.proofs.Padded.{padded-at}
use Rattle.piece.proofs.Blocks.{new-nodes-few}
use Rattle.tree.specs.Tree.{Tree, In, At, count}
use Rattle.lists.specs.Lists.{limit}
use Rattle.tree.specs.Booking.{Booking, block, book}
use Rattle.tree.specs.Accepted.{Fitting, Fresh}
use Rattle.tree.specs.Steps.{less, Marked}
use Rattle.tree.specs.ListSteps.{omit, put_all}
use Rattle.tree.specs.Pieces.{pieces_of, Holding, FreeList, RemovableList, max_serial}
use Rattle.tree.specs.Family.{parent_of, childless, new_place}
use Rattle.tree.specs.Enrolment.{when, enrolled, booked_list}
use Rattle.tree.proofs.Rows.{at_in}
use Rattle.tree.proofs.Blocks.{block_in}
use Rattle.tree.proofs.Laws.BookingSound.{booking-sound}
use Rattle.tree.proofs.Family.{parent-low, parent-solid, parent-left, free-below, fresh-booking}
use Rattle.tree.proofs.BookPieces.{less-was}
use Rattle.table.specs.declared.Node.{Node}
use Rattle.table.specs.Table.{at, Holds, unlink}
use Rattle.table.proofs.Links.{datum-is}
use Rattle.table.proofs.Steps.{free-gone}
use Rattle.table.proofs.Family.{parent_is, no-child, lowest-is}
use Rattle.layout_nodes.specs.declared.LayoutNodes.{LayoutNodes}
use Rattle.layout_nodes.specs.Listings.{area_in, entries_of}
use Rattle.layout_nodes.specs.Standing.{Stands}
use Rattle.layout_nodes.proofs.Listed.{entries-listing, kept-listing}
use Rattle.booking.specs.declared.new_nodes.NewNode.{NewNode}
use Rattle.booking.specs.declared.new_nodes.Site.{Site}
use Rattle.booking.specs.NewNodes.{append_each, booking_at, deepest, enrolments, frees_of, held_new, leaves, no_new, those}
use Rattle.booking.specs.Book.{lowest_of, new_places, no_child, site_of, new_nodes_at, less_parent, booked_with, booked_nodes}
use Rattle.booking.specs.Inner.{Bookable}
use Rattle.booking.proofs.Made.{made-is, leaves-count, held-those}
use Rattle.booking.proofs.Planted.{booked-holds}
use Rattle.booking.proofs.Issued.{book-serials}
use Rattle.booking.proofs.FreeList.{booked-free}
use Rattle.booking.proofs.RemovableList.{booked-removable}
use Rattle.booking.proofs.Rooms.{free-room, booked-room}

-- ---- a block goes by the places that it uses

-- two bookings that differ in their places alone, and not in those of the nodes that are made
module _ (shape : InsertionShape) (size : Size) (number blade serial : ℕ) (f g : ℕ → ℕ) (d : Datum) where
  abbrev with : (ℕ → ℕ) → Booking
  with place = record { shape = shape; size = size; number = number; blade = blade; place = place; serial = serial }

  pub block-places : f 0 ≡ g 0 → f 1 ≡ g 1 → f 2 ≡ g 2 → f 3 ≡ g 3 → f 4 ≡ g 4 → block (with f) d ≡ block (with g) d
  unfolding block block_of table
  block-places e0 e1 e2 e3 e4 = go shape
    where
      go : (s : InsertionShape)
          → block (record { shape = s; size = size; number = number; blade = blade; place = f; serial = serial }) d
          ≡ block (record { shape = s; size = size; number = number; blade = blade; place = g; serial = serial }) d
      go AlongCurrentCut = rw (e0, e1) refl
      go AcrossCurrentCut = rw (e0, e1, e2) refl
      go AlongThenAcross = rw (e0, e1, e2, e3) refl
      go AcrossThenAlong = rw (e0, e1, e2, e3, e4) refl

-- ---- what becomes of the leaves of a row

enrolments-more : (a b : List NewNode) → enrolments (a ++ b) ≡ enrolments a ++ enrolments b
enrolments-more [] b = refl
enrolments-more (n ∷ a) b =
    rw (enrolments-more a b)
    (sym (append_assoc (when (is_part n.datum.kind) n.place) (when n.eldest n.under ++ enrolments a) (enrolments b)
    ∙ ap (λ (l : List ℕ). when (is_part n.datum.kind) n.place ++ l) (append_assoc (when n.eldest n.under) (enrolments a) (enrolments b))))

pub enrolments-leaves : (r : Tree) (q : ℕ) (none : Bool) → enrolments (leaves q none r) ≡ enrolled q none r
enrolments-leaves nil q none = refl
enrolments-leaves (grow p d k r) q none =
    rw (enrolments-more (leaves p true k) (leaves q false r), enrolments-leaves k p true, enrolments-leaves r q false) refl

-- each leaf and its parent have places below the limit
abbrev Low : ℕ → List NewNode → Type 0
Low bound [] = Unit {0}
Low bound (n ∷ ns) = (n.under < bound) × (n.place < bound) × Low bound ns

low-more : (bound : ℕ) (a b : List NewNode) → Low bound a → Low bound b → Low bound (a ++ b)
low-more bound [] b u v = v
low-more bound (n ∷ a) b u v = (u.0, u.1, low-more bound a b u.2 v)

leaves-low : (bound : ℕ) (r : Tree) (q : ℕ) (none : Bool) → q < bound → ((i : ℕ) → In i r → i < bound) → Low bound (leaves q none r)
leaves-low bound nil q none h f = tt
leaves-low bound (grow p d k r) q none h f =
    let hp = f p (inl refl) in (
      h,
      hp,
      low-more bound (leaves p true k) (leaves q false r) (leaves-low bound k p true hp (λ i y. f i (inr (inl y))))
          (leaves-low bound r q false h (λ i y. f i (inr (inr y)))),
    )

low-at : (bound : ℕ) (l : List NewNode) → Low bound l → (i : ℕ) → i < length l
    → ((get_or l i no_new).under < bound) × ((get_or l i no_new).place < bound)
low-at bound [] u i h = let no : ⊥ = omega arith in absurd no
low-at bound (n ∷ l) u zero h = (u.0, u.1)
low-at bound (n ∷ l) u (suc i) h = low-at bound l u.2 i (omega arith)

held_at : (l : List NewNode) → length l ≤ 5 → (i : ℕ) → get_or (held_new l).list i no_new ≡ get_or l i no_new
unfolding held_new
held_at l h i = padded-at no_new 5 5 l h i

-- ---- the booking

module _ (settings : Settings) (last : ℕ) (w : Tree) (n : LayoutNodes) (stands : Stands settings last w n)
    (x : ℕ) (d : Datum) (there : At x d w) (free : d.kind ≡ Free) (shape : InsertionShape) (size : Size) (number blade : ℕ) where
  -- what is booked
  abbrev pub wanted : Booking
  wanted = record { shape = shape; size = size; number = number; blade = blade; place = new_place limit (less x w); serial = last + 1 }

  abbrev q : ℕ
  q = parent_of limit x w

  abbrev left : List Node
  left = unlink limit n.nodes x

  marked : Marked w
  marked i e y = let h = stands.serials.least i e y in omega arith

  below : x ≡ 0 → ⊥
  below = free-below limit settings w stands.sound x d there free

  gone : Holds limit left (less x w)
  gone = free-gone limit settings n.nodes w stands.sound stands.holds x d there free

  datum : (at n.nodes x).datum ≡ d
  datum = datum-is limit n.nodes limit limit x d w stands.holds.rep there

  parent : (at n.nodes x).parent ≡ q
  parent = parent_is limit settings w stands.sound x (at_in x d w there) below n.nodes stands.holds

  parent-in : In q (less x w)
  parent-in = parent-left limit settings w stands.sound x (at_in x d w there) below

  parent-structure : (e : Datum) → At q e w → e.kind ≡ Structure
  parent-structure = parent-solid limit settings w stands.sound x (at_in x d w there) below

  alone : no_child left q ≡ childless q (less x w)
  alone = no-child limit left q (less x w) gone parent-in

  marked-left : Marked (less x w)
  marked-left i e y = marked i e (less-was limit settings w stands.sound x d there free i e y).0

  place_is : (i : ℕ) → lowest_of left i ≡ new_place limit (less x w) i
  place_is zero = lowest-is limit left (less x w) gone marked-left 0
  place_is (suc i) = rw (place_is i) (lowest-is limit left (less x w) gone marked-left (new_place limit (less x w) i + 1))

  -- the site that x leaves
  abbrev site : Site
  site =
      record {
        under = q;
        alone = childless q (less x w);
        level = d.level;
        places = new_places left;
        serial = last + 1;
        number = number;
        blade = blade;
      }

  site-is : site_of n.nodes left x number blade last ≡ site
  unfolding site_of
  site-is = rw (parent, datum, alone) refl

  block-is : block (booking_at site shape size) d ≡ block wanted d
  unfolding new_places
  block-is =
      block-places shape size number blade (last + 1) (λ (i : ℕ). get_or (new_places left) i 0) (new_place limit (less x w)) d (place_is 0) (place_is 1)
      (place_is 2) (place_is 3) (place_is 4)

  abbrev new : List NewNode
  new = leaves q (childless q (less x w)) (block wanted d)

  new-few : length new ≤ 5
  new-few = rw (leaves-count wanted d q (childless q (less x w))) (new-nodes-few shape)

  module _ (fitting : Fitting settings d wanted) (shallow : d.level + deepest shape ≤ 255) where
    -- the nodes that the code makes are the block's
    new_is : new_nodes_at n.nodes left x shape size number blade last ≡ held_new new
    unfolding new_nodes_at
    new_is = rw (site-is, datum) (made-is d site shape size refl shallow ∙ rw block-is refl)

    those-new : those (new_nodes_at n.nodes left x shape size number blade last) ≡ new
    those-new = rw new_is (held-those new new-few)

    module _ (room : count w + new_nodes shape ≤ limit + 1) (spent : last + new_nodes shape ≤ max_serial) where
      fresh : Fresh limit x wanted w
      fresh = fresh-booking limit settings w stands.sound x d there free wanted (λ j h. refl) room

      table_is : Holds limit (append_each limit left new) (book x wanted w)
      table_is =
          rw parent at
          (booked-holds limit settings n.nodes w stands.sound stands.holds x d there free wanted fresh (childless q (less x w)))

      abbrev frees : List ℕ
      frees = put_all (area_in (append_each limit left new)) (omit (entries_of n.free) x) (frees_of new)

      free-is : FreeList (book x wanted w) frees
      free-is =
          booked-free limit settings w stands.sound x d there free wanted fresh last stands.serials refl
          (area_in (append_each limit left new))
          (λ i e y. ap (λ (f : Datum). area f.size)
          (datum-is limit (append_each limit left new) limit limit i e (book x wanted w) table_is.rep y))
          q (childless q (less x w)) (entries_of n.free) stands.free

      -- the removable list is the one that the rule gives
      list-is : less_parent left (at n.nodes x).parent (entries_of n.removable)
          ++ enrolments (those (new_nodes_at n.nodes left x shape size number blade last))
          ≡ booked_list limit x d wanted w (entries_of n.removable)
      unfolding booked_list
      list-is = rw (parent, those-new, alone, enrolments-leaves (block wanted d) q (childless q (less x w))) refl

      solid-is : RemovableList (book x wanted w) (booked_list limit x d wanted w (entries_of n.removable))
      solid-is =
          booked-removable limit settings w stands.sound x d there free wanted fresh parent-in parent-structure (entries_of n.removable)
          stands.removable

      rooms : (P : Datum → Type 0) (l : List ℕ) → Holding P (pieces_of (book x wanted w)) l → length l ≤ limit
      rooms = booked-room limit settings w stands.sound x d there free wanted room

      -- no index is out of bounds, and nothing overflows
      pub book-bookable : Bookable n x shape size number blade last
      book-bookable =
          record {
            placed = stands.sound.placed x (at_in x d w there);
            hung = rw parent (parent-low limit settings w stands.sound x (at_in x d w there) below);
            free_kept = stands.free_kept;
            removable_kept = stands.removable_kept;
            sited = sited;
            free_room = free-room limit settings w stands.sound x d there free wanted room (entries_of n.free) stands.free;
            removable_room = rw list-is (rooms _ (booked_list limit x d wanted w (entries_of n.removable)) solid-is);
            spent = let s = spent in omega arith;
          }
        where
          low : Low limit new
          low =
              leaves-low limit (block wanted d) q (childless q (less x w))
              (parent-low limit settings w stands.sound x (at_in x d w there) below)
              (λ j y. let g = block_in wanted d j y in rw g.2 (fresh.placed g.0 g.1))

          sited : (i : ℕ) → i < new_nodes shape
              → let m = get_or (new_nodes_at n.nodes left x shape size number blade last).list i no_new in (m.under < limit) × (m.place < limit)
          sited i h =
              rw (new_is, held_at new new-few i) (low-at limit new low i (rw (leaves-count wanted d q (childless q (less x w))) h))

      -- all stands again
      pub book-stands : Stands settings (last + new_nodes shape) (book x wanted w) (booked_nodes n x shape size number blade last).nodes
      unfolding booked_nodes booked_with
      book-stands =
          rw (list-is, those-new)
          (record {
            sound = booking-sound limit settings w x d wanted stands.sound there free fitting fresh room;
            holds = table_is;
            free = rw (entries-listing frees) free-is;
            removable = rw (entries-listing (booked_list limit x d wanted w (entries_of n.removable))) solid-is;
            free_kept = kept-listing frees (rooms _ frees free-is.holding);
            removable_kept = kept-listing _ (rooms _ (booked_list limit x d wanted w (entries_of n.removable)) solid-is);
            serials = book-serials limit settings w stands.sound x d there free wanted last stands.serials refl spent;
          })

      pub book-list : entries_of (booked_nodes n x shape size number blade last).nodes.removable ≡ booked_list limit x d wanted w (entries_of n.removable)
      unfolding booked_nodes booked_with
      book-list = rw list-is (entries-listing (booked_list limit x d wanted w (entries_of n.removable)))

      pub book-new : (booked_nodes n x shape size number blade last).new ≡ held_new new
      unfolding booked_nodes booked_with
      book-new = new_is
