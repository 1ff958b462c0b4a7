-- Document 02, No. 10: what an accepted step, a booking or a removal, has done; and what it is to another step that is apart from it: that one's piece is left,
-- and what it asks for is there as before. Rests on Outcomes and Leaves, and on tree's laws of deeds (AtOnce, Others). Assumes nothing.
use mathlib.Core.Path.{◌≡◌, refl, sym, ap, ◌∙◌}
use mathlib.Core.Bool.{Bool, true, false}
use mathlib.Core.Logic.{⊎_elim}
use Prim.Native.Nat.{ℕ, ◌+◌, ◌-◌, ◌≤◌, ◌<◌}
use native.Mathlib.Omega.{arith}
use native.Mathlib.Decide.{dec_lt}
use lib.Dec.{leb}
use lib.ListN.{length}
use borrow.Author.Tests.{le-leb}
use Rattle.piece.specs.declared.rotation.Rotation.{Rotation}
use Rattle.piece.specs.declared.parttype.PartType.{PartType}
use Rattle.piece.specs.declared.node.Datum.{Datum}
use Rattle.piece.specs.declared.node.Kind.TheVariants.{Free}
use Rattle.piece.specs.declared.insertion_blueprint.InsertionShape.{InsertionShape}
use Rattle.piece.specs.Insertion.{new_nodes}
use Rattle.piece.specs.Kinds.{is_free}
use Rattle.piece.specs.Offered.{offered_b}
use Rattle.tree.specs.Tree.{Tree, In, At, Inside, change, count}
use Rattle.tree.specs.Removal.{cleared, numbers, subtree}
use Rattle.tree.specs.Steps.{less}
use Rattle.tree.specs.Apart.{Clear}
use Rattle.tree.specs.Family.{new_place, parent_of}
use Rattle.tree.proofs.Rows.{at_in, in-eq}
use Rattle.tree.proofs.Family.{new-place-absent}
use Rattle.tree.proofs.Stays.{at-cleared, less-at}
use Rattle.tree.proofs.Kept.{free-alone}
use Rattle.tree.proofs.Counts.{count-book, count-remove}
use Rattle.tree.proofs.Beside.{subtree-beside}
use Rattle.tree.proofs.Others.{far-stays, inside-was, subtree-booked}
use Rattle.tree.proofs.BookPieces.{less-gone, less-keeps}
use Rattle.tree.specs.AtOnce.{Deed, Spares, books, does, leaves, takes}
use Rattle.marks.specs.declared.Mark.{Mark}
use Rattle.layout.specs.declared.layout.Layout.{Layout}
use Rattle.layout.specs.declared.insert.Inserted.{Inserted}
use Rattle.layout.specs.declared.remove.Removed.{Removed}
use Rattle.layout.specs.Check.{limit, tree}
use Rattle.layout.specs.Asked.{part_b}
use Rattle.layout.specs.SoundLayout.{Sized}
use Rattle.layout.specs.Insert.{booking_for, piece_at}
use Rattle.layout.specs.Remove.{numbers_out, place_for}
use Rattle.layout.specs.Inner.{Insertable}
use Rattle.layout.proofs.Listed.{piece_is}
use Rattle.demands.specs.Life.{NamesPiece}
use Rattle.demands.specs.Orders.{Accepted, Apart, Mixed, Step, booking, mark_of, place_of, removal}
use Rattle.demands.proofs.Outcomes.{InsertMeans, RemoveMeans, accepted-insert, accepted-remove, insert-names, remove-names}
use Rattle.demands.proofs.Leaves.{Leaves, insert-leaves, new-unheld, piece-now, names-left, names-stay, remove-leaves}

-- ---- what a step does

-- to the tree of the layout l; and how many nodes are new
abbrev pub deed_on : Layout → Step → Deed
deed_on l (booking m p r s) = books (booking_for l m.place p r s)
deed_on l (removal m room) = takes (place_for l m.place) (l.serial + 1)

abbrev pub new_of : Step → ℕ
new_of (booking m p r s) = new_nodes s
new_of (removal m room) = 1

-- the pieces of l that it leaves
abbrev pub left_by : Layout → Step → Tree
left_by l s = leaves (deed_on l s) (place_of s) (tree l)

-- the step asks for a piece of this kind: free to book in, a part or a structure below the top to remove
abbrev pub Meets : Step → Datum → Type 0
Meets (booking m p r s) d = d.kind ≡ Free
Meets (removal m room) d = (is_free d.kind ≡ false) × (m.place ≡ 0 → ⊥)

-- and this of the layout, but for refusals 8 and 9: the part and an offer; room in the buffer
abbrev pub Asks : Layout → Step → Type 0
Asks l (booking m p r s) = (part_b p ≡ true) × (offered_b (piece_at l m.place) p l.settings r s ≡ true)
Asks l (removal m room) = length (numbers_out l m.place) ≤ room

-- the test of refusal 8
abbrev pub room_b : Layout → Step → Bool
room_b l (booking m p r s) = leb (l.held - 1 + new_nodes s) limit
room_b l (removal m room) = true

-- how many nodes are held afterwards
abbrev pub Holding : Layout → Step → Layout → Type 0
Holding l (booking m p r s) n = n.held + 1 ≡ l.held + new_nodes s
Holding l (removal m room) n = n.held ≤ l.held

-- nothing but 8 or 9 is in its way
pub record Ready (l : Layout) (s : Step) : Type 0 where
  pub names : NamesPiece l (mark_of s)
  pub meets : Meets s (piece_at l (place_of s))
  pub asks : Asks l s

pub record Stepped (l : Layout) (s : Step) (n : Layout) : Type 0 where
  pub sized : Sized n
  pub ready : Ready l s
  pub room : room_b l s ≡ true
  pub held : Holding l s n
  pub settings : n.settings ≡ l.settings
  pub serial : n.serial ≡ l.serial + new_of s
  pub tree : tree n ≡ change (place_of s) (does (deed_on l s)) (tree l)
  pub leaves : Leaves l n (left_by l s)
  pub spares : (y : ℕ) (e : Datum) → At y e (left_by l s) → Spares y (deed_on l s)

-- ---- a booking

module _ (l : Layout) (x : ℕ) (p : PartType) (r : Rotation) (s : InsertionShape) (can : Insertable l x p r s) where
  -- no new node gets the place of a piece that is left
  booking-spares : (y : ℕ) (e : Datum) → At y e (less x (tree l)) → Clear y (booking_for l x p r s)
  booking-spares y e stays j few z = go (dec_lt (new_place limit (less x (tree l)) j) limit)
    where
      is-left : In y (less x (tree l))
      is-left = at_in y e (less x (tree l)) stays

      go : Dec (new_place limit (less x (tree l)) j < limit) → ⊥
      go (yes low) = new-place-absent limit (less x (tree l)) j low (in-eq (less x (tree l)) (sym z) is-left)
      go (no high) = let low = can.sound.sound.placed y (at_in y e (tree l) (less-at y e x (tree l) stays)) in high (omega arith)

booked : (l : Layout) (m : Mark) (p : PartType) (r : Rotation) (s : InsertionShape) (a : Inserted) → InsertMeans l m p r s a
    → Stepped l (booking m p r s) a.layout
booked l m p r s a i =
    let can = i.insertable in
    let next = i.done.next in
    record {
      sized = next.sized;
      ready = record { names = insert-names i; meets = can.free; asks = (can.part, can.offered) };
      room = le-leb (l.held - 1 + new_nodes s) limit can.room;
      held =
          omega (
            arith,
            next.sound.held,
            ap count next.tree,
            count-book limit l.settings (tree l) m.place (piece_at l m.place) (booking_for l m.place p r s) can.sound.sound can.there
                can.free,
            can.sound.held,
          );
      settings = next.settings;
      serial = next.serial;
      tree = next.tree;
      leaves = insert-leaves l m.place p r s can a i.done;
      spares = booking-spares l m.place p r s can;
    }

-- ---- a removal

took-out : (l : Layout) (m : Mark) (room : ℕ) (a : Removed) → RemoveMeans l m room a → Stepped l (removal m room) a.layout
took-out l m room a i =
    let can = i.takeable in
    let next = i.done.next in
    let o = can.removable in
    let solid : is_free (piece_at l m.place).kind ≡ false =
    rw (piece_is l.nodes (tree l) can.sound.holds m.place o.piece o.there) o.solid
    in
    record {
      sized = next.sized;
      ready = record { names = remove-names i; meets = (solid, o.below); asks = i.fits };
      room = refl;
      held =
          omega (
            arith,
            next.sound.held,
            ap count next.tree,
            count-remove m.place (place_for l m.place) (l.serial + 1) (tree l),
            can.sound.held,
          );
      settings = next.settings;
      serial = next.serial;
      tree = next.tree;
      leaves = remove-leaves l m.place can a i.done;
      spares = λ y e h z. new-unheld l m.place can a i.done (in-eq (cleared m.place (tree l)) z (at_in y e (cleared m.place (tree l)) h));
    }

pub stepped : (l : Layout) → Sized l → (s : Step) (n : Layout) → Accepted l s n → Stepped l s n
stepped l sized (booking m p r s) n a = rw a.2 (booked l m p r s a.0 (accepted-insert l m p r s a.0 sized a.1))
stepped l sized (removal m room) n a = rw a.2 (took-out l m room a.0 (accepted-remove l m room a.0 sized a.1))

-- ---- the other steps

-- one removes, and then the other books: the removal may join the free piece of its row to what it takes out
abbrev pub Joins : Step → Step → Type 0
Joins (booking m p r s) s' = ⊥
Joins (removal m room) (booking m' p r s) = Unit {0}
Joins (removal m room) (removal m' room') = ⊥

joins-mixed : (s s' : Step) → Joins s s' → Mixed s s'
joins-mixed (booking m p r s) s' j = absurd j
joins-mixed (removal m room) (booking m' p r s) j = tt
joins-mixed (removal m room) (removal m' room') j = absurd j

mixed-back : (s s' : Step) → Mixed s' s → Mixed s s'
mixed-back (booking m p r s) (booking m' p' r' s') j = j
mixed-back (booking m p r s) (removal m' room) j = j
mixed-back (removal m room) (booking m' p r s) j = j
mixed-back (removal m room) (removal m' room') j = j

-- s, made first, is not in the way of s'
pub record Lets (l : Layout) (s s' : Step) : Type 0 where
  pub different : place_of s ≡ place_of s' → ⊥
  pub outside : Inside (place_of s) (place_of s') (tree l) → ⊥
  pub inside : Inside (place_of s') (place_of s) (tree l) → ⊥
  pub parents : Joins s s' → parent_of limit (place_of s) (tree l) ≡ parent_of limit (place_of s') (tree l) → ⊥

pub apart-lets : {l : Layout} {s s' : Step} → Apart l s s' → Lets l s s'
apart-lets {l} {s} {s'} a =
    record { different = a.different; outside = a.outside; inside = a.inside; parents = λ j. a.parents (joins-mixed s s' j) }

pub apart-back : {l : Layout} {s s' : Step} → Apart l s s' → Apart l s' s
apart-back {l} {s} {s'} a =
    record { different = λ e. a.different (sym e); outside = a.inside; inside = a.outside; parents = λ j e. a.parents (mixed-back s s' j) (sym e) }

-- what is left keeps all that is below it, if the step's piece is not inside it
subtree-same : {l n : Layout} (s : Step) → Stepped l s n → (y : ℕ) (e : Datum) → At y e (left_by l s) → (Inside y (place_of s) (tree l) → ⊥)
    → subtree y (change (place_of s) (does (deed_on l s)) (tree l)) ≡ subtree y (tree l)
subtree-same {l} (booking m p r s) st y e h out =
    let x = m.place in
    let d = piece_at l x in
    let w = st.leaves.before.sound in
    let there = st.ready.names.there in
    let other : y ≡ x → ⊥ =
    λ z. less-gone limit l.settings (tree l) w x d there st.ready.meets (in-eq (less x (tree l)) z (at_in y e (less x (tree l)) h))
    in
    subtree-booked x d (booking_for l x p r s) y other (st.spares y e h) (tree l)
    (free-alone l.settings x d (tree l) w.topped w.distinct there st.ready.meets) out
subtree-same {l} (removal m room) st y e h out =
    subtree-beside m.place (place_for l m.place) (l.serial + 1) y (st.spares y e h) (tree l) st.leaves.before.sound.distinct
    (at_in y e (cleared m.place (tree l)) h) out

-- a step leaves the piece of another one that it is not in the way of
pub left_other : {l n : Layout} (s : Step) → Stepped l s n → (s' : Step) → Lets l s s' → Ready l s' → At (place_of s') (piece_at l (place_of s')) (left_by l s)
left_other {l} (booking m p r s) st s' lets ready =
    less-keeps limit l.settings (tree l) st.leaves.before.sound m.place (piece_at l m.place) st.ready.names.there st.ready.meets
    (place_of s') (piece_at l (place_of s')) ready.names.there (λ z. lets.different (sym z))
left_other {l} (removal m room) st (booking m' p r s) lets ready =
    let w = st.leaves.before.sound in
    far-stays l.settings m.place m'.place (piece_at l m'.place) limit (tree l) w.topped w.distinct st.ready.meets.1
    (λ z. lets.different (sym z)) lets.outside (lets.parents tt) ready.names.there
left_other {l} (removal m room) st (removal m' room') lets ready =
    at-cleared l.settings m.place m'.place (piece_at l m'.place) (tree l) st.leaves.before.sound.topped st.ready.meets.1
    ready.meets.0 (λ z. lets.different (sym z)) lets.outside ready.names.there

-- what a step asks of two layouts in which its piece, the settings and the part numbers that come out are the same
asks-same : (l n : Layout) (s : Step) → piece_at n (place_of s) ≡ piece_at l (place_of s) → n.settings ≡ l.settings
    → numbers_out n (place_of s) ≡ numbers_out l (place_of s) → Asks l s → Asks n s
asks-same l n (booking m p r s) piece settings out a = (a.0, rw (piece, settings) a.1)
asks-same l n (removal m room) piece settings out a = rw out a

module _ {l n : Layout} {s : Step} (st : Stepped l s n) where
  abbrev x : ℕ
  x = place_of s

  -- what is left was this piece
  piece-was : (y : ℕ) (e : Datum) → At y e (left_by l s) → piece_at l y ≡ e
  piece-was y e h = piece_is l.nodes (tree l) st.leaves.before.holds y e (st.leaves.was y e h)

  -- a mark that was issued before and names a piece afterwards names one that is left, so it named it before
  pub old-left : (m : Mark) → NamesPiece n m → m.serial ≤ l.serial → At m.place (piece_at n m.place) (left_by l s)
  old-left m now old =
      ⊎_elim (λ z. z) (λ z. absurd (omega (arith, now.serial))) (st.leaves.pieces m.place (piece_at n m.place) now.there)

  pub named-before : (m : Mark) → NamesPiece n m → m.serial ≤ l.serial → NamesPiece l m × (piece_at l m.place ≡ piece_at n m.place)
  named-before m now old =
      let h = old-left m now old in
      let is = piece-was m.place (piece_at n m.place) h in (
        record {
          number = now.number ∙ st.leaves.number;
          there = rw is (st.leaves.was m.place (piece_at n m.place) h);
          serial = ap (λ (d : Datum). d.serial) is ∙ now.serial;
        },
        is,
      )

  -- a step whose piece is left, and does not hold that of s: it asks the same as before
  module _ (s' : Step) (h : At (place_of s') (piece_at l (place_of s')) (left_by l s)) where
    abbrev y : ℕ
    y = place_of s'

    now : piece_at n y ≡ piece_at l y
    now = piece-now st.leaves y (piece_at l y) h

    module _ (out : Inside y x (tree l) → ⊥) where
      pub numbers-same : numbers_out n y ≡ numbers_out l y
      unfolding numbers_out
      numbers-same = rw st.tree (ap numbers (subtree-same s st y (piece_at l y) h out))

      ready-same : (NamesPiece l (mark_of s') → Ready n s' → Ready l s') × (Ready l s' → Ready n s')
      ready-same = (
        (λ named r. record { names = named; meets = rw (← now) r.meets; asks = asks-same n l s' (sym now) (sym st.settings) (sym numbers-same) r.asks }),
        λ r. record {
          names = names-stay st.leaves (mark_of s') r.names h;
          meets = rw now r.meets;
          asks = asks-same l n s' now st.settings numbers-same r.asks;
        },
      )

  -- so a step that is ready stays so
  pub ready-after : (s' : Step) → Lets l s s' → Ready l s' → Ready n s'
  ready-after s' lets ready = (ready-same s' (left_other s st s' lets ready) lets.inside).1 ready

  -- and one that is ready was so, if its mark was there
  pub ready-before : (s' : Step) → (Inside (place_of s') x (tree l) → ⊥) → NamesPiece l (mark_of s') → Ready n s' → Ready l s'
  ready-before s' out named ready =
      (ready-same s' (names-left st.leaves (mark_of s') named ready.names) out).0 named ready

  -- what is not in the way of another before is not in its way afterwards
  pub lets-after : (s₁ s₂ : Step) → At (place_of s₁) (piece_at l (place_of s₁)) (left_by l s) → At (place_of s₂) (piece_at l (place_of s₂)) (left_by l s)
      → Lets l s₁ s₂ → Lets n s₁ s₂
  lets-after s₁ s₂ h g lets =
      let a = place_of s₁ in
      let b = place_of s₂ in
      let sa = st.spares a (piece_at l a) h in
      let sb = st.spares b (piece_at l b) g in
      let pa = (st.leaves.parent a (piece_at l a) h).same in
      let pb = (st.leaves.parent b (piece_at l b) g).same in
      record {
        different = lets.different;
        outside = λ z. lets.outside (inside-was x (deed_on l s) a b sa sb (tree l) (rw st.tree at z));
        inside = λ z. lets.inside (inside-was x (deed_on l s) b a sb sa (tree l) (rw st.tree at z));
        parents = λ j z. lets.parents j (sym pa ∙ z ∙ pb);
      }
