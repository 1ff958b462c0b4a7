-- What an accepted call leaves of a layout: each piece of the next one stood in it, as it is and under the same parent, or has a serial that is new. A
-- booking leaves all but the free piece that it takes, a removal all but what goes with its piece. So a mark that names a piece before and after names one that
-- is left, and what is left keeps its mark. It rests on the pieces of a booking (tree) and of a removal (crate removal), on their parents (tree's Parents) and
-- on the serials of both. Assumes nothing.
use mathlib.Core.Path.{◌≡◌, refl, sym, ap, ◌∙◌}
use mathlib.Core.Logic.{◌⊎◌, inl, inr, ⊎_elim}
use Prim.Native.Nat.{ℕ, ◌+◌, ◌<◌}
use native.Mathlib.Omega.{arith}
use Rattle.piece.specs.declared.rotation.Rotation.{Rotation}
use Rattle.piece.specs.declared.parttype.PartType.{PartType}
use Rattle.piece.specs.declared.node.Datum.{Datum}
use Rattle.piece.specs.declared.insertion_blueprint.InsertionShape.{InsertionShape}
use Rattle.tree.specs.Tree.{Tree, In, At}
use Rattle.tree.specs.Booking.{Booking}
use Rattle.tree.specs.Removal.{cleared}
use Rattle.tree.specs.Sound.{Sound}
use Rattle.tree.specs.Steps.{less}
use Rattle.tree.proofs.Bookings.{at-unique}
use Rattle.tree.proofs.Stays.{less-at, cleared_at, at-remove}
use Rattle.tree.proofs.BookPieces.{book-pieces, book-left}
use Rattle.tree.proofs.Family.{fresh-removal}
use Rattle.tree.proofs.Parents.{SameParent, book-parent, remove-parent}
use Rattle.marks.specs.declared.Mark.{Mark}
use Rattle.booking.proofs.Issued.{newer}
use Rattle.removal.specs.Remove.{new_free}
use Rattle.removal.proofs.Pieces.{remove-pieces}
use Rattle.removal.proofs.Serials.{new-serial}
use Rattle.layout.specs.declared.layout.Layout.{Layout}
use Rattle.layout.specs.declared.insert.Inserted.{Inserted}
use Rattle.layout.specs.declared.remove.Removed.{Removed}
use Rattle.layout.specs.Check.{limit, tree}
use Rattle.layout.specs.SoundLayout.{SoundLayout}
use Rattle.layout.specs.Insert.{booking_for, piece_at, InsertDone}
use Rattle.layout.specs.Remove.{place_for, RemoveDone}
use Rattle.layout.proofs.Listed.{piece_is}
use Rattle.layout.specs.Inner.{Insertable, Takeable}
use Rattle.demands.specs.Life.{NamesPiece}
use Rattle.demands.proofs.Outcomes.{insertable-fresh}

-- of the layout l the pieces w are left in n
pub record Leaves (l n : Layout) (w : Tree) : Type 0 where
  pub before : SoundLayout l
  pub after : SoundLayout n
  pub number : n.number ≡ l.number
  pub was : (i : ℕ) (e : Datum) → At i e w → At i e (tree l)
  pub stays : (i : ℕ) (e : Datum) → At i e w → At i e (tree n)
  pub parent : (i : ℕ) (e : Datum) → At i e w → SameParent limit i (tree l) (tree n)
  pub pieces : (i : ℕ) (e : Datum) → At i e (tree n) → At i e w ⊎ (l.serial < e.serial)

module _ {l n : Layout} {w : Tree} (c : Leaves l n w) where
  pub piece-now : (i : ℕ) (e : Datum) → At i e w → piece_at n i ≡ e
  piece-now i e h = piece_is n.nodes (tree n) c.after.holds i e (c.stays i e h)

  -- a mark that names a piece of both names one that is left
  pub names-left : (m : Mark) → NamesPiece l m → NamesPiece n m → At m.place (piece_at l m.place) w
  names-left m old new =
      let y = m.place in
      let e = piece_at n y in
      let most = c.before.serials.most y (piece_at l y) old.there in
      let serial = new.serial ∙ sym old.serial in
      ⊎_elim
      (λ z. rw (sym (at-unique y e (piece_at l y) (tree l) c.before.sound.distinct (c.was y e z) old.there)) at z)
      (λ z. absurd (omega arith)) (c.pieces y e new.there)

  -- what is left keeps its mark
  pub names-stay : (m : Mark) → NamesPiece l m → At m.place (piece_at l m.place) w → NamesPiece n m
  names-stay m old h =
      let now = piece-now m.place (piece_at l m.place) h in
      record {
        number = old.number ∙ sym c.number;
        there = rw now (c.stays m.place (piece_at l m.place) h);
        serial = ap (λ (e : Datum). e.serial) now ∙ old.serial;
      }

-- a booking in the free piece at x
module _ (l : Layout) (x : ℕ) (p : PartType) (r : Rotation) (s : InsertionShape) (can : Insertable l x p r s) (a : Inserted)
    (done : InsertDone l x (booking_for l x p r s) a) where
  abbrev b : Booking
  b = booking_for l x p r s

  abbrev d : Datum
  d = piece_at l x

  booked-sound : Sound limit l.settings (tree l)
  booked-sound = can.sound.sound

  pub insert-leaves : Leaves l a.layout (less x (tree l))
  insert-leaves =
      record {
        before = can.sound;
        after = done.next.sound;
        number = done.next.number;
        was = λ i e h. less-at i e x (tree l) h;
        stays = λ i e h.
            rw done.next.tree (book-left limit l.settings (tree l) booked-sound x d can.there can.free b i e h);
        parent = λ i e h.
            rw done.next.tree
            (book-parent limit l.settings (tree l) booked-sound x d can.there can.free b (insertable-fresh l x p r s can) i e h);
        pieces = λ i e h.
            ⊎_elim inl
            (λ z. inr
            (newer limit l.settings (tree l) booked-sound x d can.there can.free b l.serial can.sound.serials refl i e z))
            (book-pieces limit l.settings (tree l) booked-sound x d can.there can.free b i e (rw done.next.tree at h));
      }

-- a removal of the piece at x
module _ (l : Layout) (x : ℕ) (can : Takeable l x) (a : Removed) (done : RemoveDone l x a) where
  abbrev n : ℕ
  n = place_for l x

  -- the place of the new free piece is not held by what is left
  pub new-unheld : In (place_for l x) (cleared x (tree l)) → ⊥
  new-unheld = (fresh-removal limit l.settings (tree l) can.sound.sound x can.removable).1

  new-later : (e : Datum) → e ≡ new_free l.nodes x l.serial → l.serial < e.serial
  new-later e z = let s = ap (λ (f : Datum). f.serial) z ∙ new-serial l.nodes x l.serial in omega arith

  pub remove-leaves : Leaves l a.layout (cleared x (tree l))
  remove-leaves =
      record {
        before = can.sound;
        after = done.next.sound;
        number = done.next.number;
        was = λ i e h. cleared_at i e x (tree l) h;
        stays = λ i e h. rw done.next.tree (at-remove x n (l.serial + 1) i e (tree l) h);
        parent = λ i e h.
            rw done.next.tree (remove-parent limit x n (l.serial + 1) (tree l) can.sound.sound.distinct new-unheld i e h);
        pieces = λ i e h.
            ⊎_elim inl (λ z. inr (new-later e z.1))
            (remove-pieces limit l.settings l.nodes (tree l) can.sound.sound can.sound.holds x can.removable n l.serial
            new-unheld i e (rw done.next.tree at h));
      }
