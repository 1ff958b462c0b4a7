-- What a booking that is accepted needs, and the layout that it leaves: where all is known that `Insertable` says, the steps of crate `booking` may be
-- taken, no number overflows, and the next layout is document 01's. Assumes nothing.
use mathlib.Core.Path.{◌≡◌, refl, sym, ap, ◌∙◌}
use mathlib.Core.Bool.{true}
use mathlib.Core.List.{List}
use Prim.Native.Nat.{ℕ, ◌+◌, ◌-◌, ◌^◌, ◌≤◌, ◌<◌}
use native.Mathlib.Omega.{arith}
use lib.Dec.{leb}
use lib.ListN.{length}
use borrow.Author.Tests.{leb-true}
use Rattle.std.specs.Prelude.{Ok}
use Rattle.piece.specs.declared.size.Size.{Size}
use Rattle.piece.specs.declared.rotation.Rotation.{Rotation}
use Rattle.piece.specs.declared.rotation.Rotation.TheVariants.{Default, Rotated}
use Rattle.piece.specs.declared.parttype.PartType.{PartType}
use Rattle.piece.specs.declared.node.Datum.{Datum}
use Rattle.piece.specs.declared.insertion_blueprint.InsertionShape.{InsertionShape}
use Rattle.piece.specs.declared.insertion_blueprint.InsertionShape.TheVariants.{AlongCurrentCut, AcrossCurrentCut, AlongThenAcross, AcrossThenAlong}
use Rattle.piece.specs.Insertion.{new_nodes}
use Rattle.piece.specs.Offers.{turned}
use Rattle.piece.specs.Sides.{area}
use Rattle.piece.proofs.Blocks.{new-nodes-few}
use Rattle.tree.specs.Tree.{Tree, count}
use Rattle.tree.specs.Sound.{Sided, max_number, max_side}
use Rattle.tree.specs.Booking.{Booking, block, book}
use Rattle.tree.specs.Accepted.{Fitting}
use Rattle.tree.specs.Figures.{part_area}
use Rattle.tree.specs.Steps.{less}
use Rattle.tree.specs.Family.{parent_of, childless}
use Rattle.tree.specs.Enrolment.{booked_list}
use Rattle.tree.proofs.Blocks.{deep, offered-deep}
use Rattle.tree.proofs.Levels.{level-low}
use Rattle.tree.proofs.Usage.{sheet-small}
use Rattle.tree.proofs.Laws.AreaConserved.{area-conserved}
use Rattle.lists.proofs.Scan.{and_left, and_right}
use Rattle.layout_nodes.specs.declared.LayoutNodes.{LayoutNodes}
use Rattle.layout_nodes.specs.Standing.{Stands}
use Rattle.booking.specs.declared.book.Booked.{Booked}
use Rattle.booking.specs.declared.new_marks.NewMarks.{NewMarks}
use Rattle.booking.specs.declared.new_nodes.NewNode.{NewNode}
use Rattle.booking.specs.NewNodes.{deepest, frees_of, held_new, leaves, those}
use Rattle.booking.specs.Marks.{block_marks, new_marks}
use Rattle.booking.specs.Book.{booked_nodes}
use Rattle.booking.specs.Inner.{Bookable}
use Rattle.piece.proofs.Offering.{Offers, offered-says}
use Rattle.booking.proofs.Made.{frees-few, held-those, leaves-count}
use Rattle.booking.proofs.Sums.{book-count, book-part-area}
use Rattle.booking.proofs.BlockMarks.{marks-are}
use Rattle.booking.proofs.Stands.{book-bookable, book-stands, book-list, book-new}
use Rattle.layout.specs.declared.layout.Layout.{Layout}
use Rattle.layout.specs.Check.{limit, side_b, tree}
use Rattle.layout.specs.Asked.{part_b}
use Rattle.layout.specs.Parts.{nodes_of, with_nodes}
use Rattle.layout.specs.Next.{Next, removables}
use Rattle.layout.specs.Insert.{InsertDone, booking_for, piece_at}
use Rattle.layout.specs.Inner.{Insertable}
use Rattle.layout.proofs.Changed.{layout-stands, stands-next}
use Rattle.layout.proofs.Admitted.{sound-counts}

-- a part in the domain has sides, turned or not
part-sided : (p : PartType) (r : Rotation) → part_b p ≡ true → Sided (turned r p.size)
part-sided p r h = go r (side p.size.width (and_left (side_b p.size.width) (side_b p.size.height) h))
    (side p.size.height (and_right (side_b p.size.width) (side_b p.size.height) h))
  where
    side : (v : ℕ) → side_b v ≡ true → 1 ≤ v
    side v e = leb-true 1 v (and_left (leb 1 v) (leb v max_side) e)

    go : (q : Rotation) → 1 ≤ p.size.width → 1 ≤ p.size.height → Sided (turned q p.size)
    go Default a b = record { wide = a; tall = b }
    go Rotated a b = record { wide = b; tall = a }

-- the two count a shape's levels alike
deepest-deep : (s : InsertionShape) → deepest s ≡ deep s
deepest-deep AlongCurrentCut = refl
deepest-deep AcrossCurrentCut = refl
deepest-deep AlongThenAcross = refl
deepest-deep AcrossThenAlong = refl

module _ (l : Layout) (x : ℕ) (p : PartType) (r : Rotation) (s : InsertionShape) (can : Insertable l x p r s) where
  abbrev size : Size
  size = turned r p.size

  abbrev b : Booking
  b = booking_for l x p r s

  abbrev d : Datum
  d = piece_at l x

  abbrev w : Tree
  w = tree l

  pub some-held : 1 ≤ l.held
  some-held = (sound-counts l can.sound).0

  offers : Offers d p l.settings r s
  offers = offered-says d p l.settings r s can.offered

  -- the shape stays within the levels that the code can write
  shallow : d.level + deepest s ≤ 255
  shallow =
      let low = level-low l.settings w can.sound.sound.topped x d can.there in
      let deep = offered-deep _ _ d.level l.settings.stages s low offers.shaped in
      omega (arith, deepest-deep s, can.sound.sound.domain.most)

  room : count w + new_nodes s ≤ limit + 1
  room = omega (arith, can.sound.held, can.room, some-held)

  stands : Stands l.settings l.serial w (nodes_of l)
  stands = layout-stands l can.sized can.sound

  -- the number is in the domain, as the type says
  module _ (numbered : p.number ≤ max_number) where
    pub fitting : Fitting l.settings d b
    fitting =
        record { inside = offers.inside; offered = offers.shaped; sided = part-sided p r can.part; numbered = numbered; bladed = refl }

    abbrev after : Booked
    after = booked_nodes (nodes_of l) x s size p.number l.settings.blade l.serial

    may-be-booked : Bookable (nodes_of l) x s size p.number l.settings.blade l.serial
    may-be-booked =
        book-bookable l.settings l.serial w (nodes_of l) stands x d can.there can.free s size p.number l.settings.blade fitting shallow
        room can.spent

    stand-again : Stands l.settings (l.serial + new_nodes s) (book x b w) after.nodes
    stand-again =
        book-stands l.settings l.serial w (nodes_of l) stands x d can.there can.free s size p.number l.settings.blade fitting shallow
        room can.spent

    lists-fit : (after.nodes.free.count ≤ limit) × (after.nodes.removable.count ≤ limit)
    lists-fit = (stand-again.free_kept.room, stand-again.removable_kept.room)

    held-is : l.held - 1 + new_nodes s ≡ count (book x b w)
    held-is =
        omega (
          arith,
          can.sound.held,
          some-held,
          book-count limit l.settings w can.sound.sound x d can.there can.free b,
        )

    used-is : l.used + area size ≡ part_area (book x b w)
    used-is =
        ap (λ (n : ℕ). n + area size) can.sound.used
        ∙ sym (book-part-area limit l.settings w can.sound.sound x d can.there can.free b fitting)

    -- "areas stay below 2^52"
    used-fits : l.used + area size < 2 ^ 52
    used-fits = omega (arith, used-is, area-conserved (book x b w) stand-again.sound, sheet-small can.sound.sound.domain)

    -- the nodes that are made
    abbrev new : List NewNode
    new = leaves (parent_of limit x w) (childless (parent_of limit x w) (less x w)) (block b d)

    new-few : length new ≤ 5
    new-few = rw (leaves-count b d (parent_of limit x w) (childless (parent_of limit x w) (less x w))) (new-nodes-few s)

    new_is : after.new ≡ held_new new
    new_is =
        book-new l.settings l.serial w (nodes_of l) stands x d can.there can.free s size p.number l.settings.blade fitting shallow room
        can.spent

    those-are : those after.new ≡ new
    those-are = rw new_is (held-those new new-few)

    marks-fit : (after.new.count ≤ 5) × (length (frees_of (those after.new)) ≤ 2)
    unfolding held_new
    marks-fit = (rw new_is new-few, rw those-are (frees-few b d (parent_of limit x w) (childless (parent_of limit x w) (less x w))))

    marks-is : new_marks l.number (those after.new) ≡ block_marks l.number (block b d)
    marks-is = rw those-are (marks-are l.number (block b d) (parent_of limit x w) (childless (parent_of limit x w) (less x w)))

    abbrev next : Layout
    next = with_nodes l after.nodes (l.held - 1 + new_nodes s) (l.used + area size) (l.serial + new_nodes s)

    next-is : Next l (book x b w) (booked_list limit x d b w (removables l)) (l.serial + new_nodes s) next
    next-is =
        rw
        (book-list l.settings l.serial w (nodes_of l) stands x d can.there can.free s size p.number l.settings.blade fitting shallow room
        can.spent) at
        (stands-next l (l.serial + new_nodes s) (book x b w) after.nodes stand-again (l.held - 1 + new_nodes s) (l.used + area size)
        held-is used-is)

    -- as the code finds it: what its calls give
    module _ {nodes : LayoutNodes} {sides : Size} (nodes-are : nodes ≡ nodes_of l) (sides-are : sides ≡ size) where
      pub book-may : Bookable nodes x s sides p.number l.settings.blade l.serial
      book-may = rw (nodes-are, sides-are) may-be-booked

      pub used-may : {a : ℕ} → a ≡ area sides → l.used + a < 2 ^ 52
      used-may e = rw (e, sides-are) used-fits

      module _ {made : Booked} (made-is : made ≡ booked_nodes nodes x s sides p.number l.settings.blade l.serial) where
        made_after : made ≡ after
        made_after = made-is ∙ rw (nodes-are, sides-are) refl

        pub lists-may : (made.nodes.free.count ≤ limit) × (made.nodes.removable.count ≤ limit)
        lists-may = rw made_after lists-fit

        pub marks-may : (made.new.count ≤ 5) × (length (frees_of (those made.new)) ≤ 2)
        marks-may = rw made_after marks-fit

        -- what is handed back is what document 01 says
        pub insert-done : {few a : ℕ} {marks : NewMarks} {then : Layout} → few ≡ new_nodes s → a ≡ area sides
            → then ≡ with_nodes l made.nodes (l.held - 1 + few) (l.used + a) (l.serial + few)
            → marks ≡ new_marks l.number (those made.new) → InsertDone l x b (record { outcome = Ok tt; marks = marks; layout = then })
        insert-done {few} {a} few-is a-is then_is marks-are =
            let same : with_nodes l made.nodes (l.held - 1 + few) (l.used + a) (l.serial + few) ≡ next = rw (made_after, few-is, a-is, sides-are) refl in
            record {
              outcome = refl;
              marks = marks-are ∙ rw made_after marks-is;
              next = rw (then_is ∙ same) next-is;
            }
