-- Demand 3: "booking and then removing the first piece made gives the same tree". Over the calls, wherever both are accepted: the second is given
-- the first mark that the first one answered. It rests on tree's law `book-then-remove`.
use mathlib.Core.Path.{◌≡◌, ap, ◌∙◌}
use Prim.Native.Nat.{ℕ, ◌+◌, ◌≤◌}
use native.Mathlib.Omega.{arith}
use Rattle.piece.specs.declared.rotation.Rotation.{Rotation}
use Rattle.piece.specs.declared.parttype.PartType.{PartType}
use Rattle.piece.specs.declared.node.Datum.{Datum}
use Rattle.piece.specs.declared.insertion_blueprint.InsertionShape.{InsertionShape}
use Rattle.piece.specs.declared.insertion_blueprint.InsertionShape.TheVariants.{AlongCurrentCut, AcrossCurrentCut, AlongThenAcross, AcrossThenAlong}
use Rattle.piece.specs.Insertion.{new_nodes}
use Rattle.tree.specs.Snapshot.{Same}
use Rattle.tree.specs.Booking.{Booking, block, book}
use Rattle.tree.specs.Removal.{remove}
use Rattle.tree.proofs.Laws.BookThenRemove.{book-then-remove}
use Rattle.booking.specs.declared.new_marks.NewMarks.{NewMarks}
use Rattle.booking.specs.Marks.{block_marks}
use Rattle.booking.proofs.BlockMarks.{block-first-is}
use Rattle.marks.specs.declared.Mark.{Mark}
use Rattle.layout.specs.declared.layout.Layout.{Layout}
use Rattle.layout.specs.declared.insert.Inserted.{Inserted}
use Rattle.layout.specs.declared.remove.Removed.{Removed}
use Rattle.layout.specs.Check.{tree}
use Rattle.layout.specs.SoundLayout.{Sized}
use Rattle.layout.specs.Insert.{booking_for, piece_at}
use Rattle.layout.specs.Remove.{place_for}
use Rattle.questions.specs.Written.{snapshot_bytes}
use Rattle.demands.specs.Calls.{InsertAccepted, RemoveAccepted, SameTree}
use Rattle.demands.proofs.Outcomes.{InsertMeans, RemoveMeans, accepted-insert, accepted-remove}

-- every shape makes at least two nodes
pub new_two : (s : InsertionShape) → 2 ≤ new_nodes s
new_two AlongCurrentCut = omega arith
new_two AcrossCurrentCut = omega arith
new_two AlongThenAcross = omega arith
new_two AcrossThenAlong = omega arith

-- the first mark of a block names the place of the first node
pub first-place : (number : ℕ) (b : Booking) (d : Datum) → (block_marks number (block b d)).first.place ≡ b.place 0
first-place number b d = ap (λ (m : Mark). m.place) (block-first-is number b d)

module _ (l : Layout) (sized : Sized l) (m : Mark) (p : PartType) (r : Rotation) (s : InsertionShape) (a : Inserted) (room : ℕ) (c : Removed) where
  abbrev x : ℕ
  x = m.place

  abbrev b : Booking
  b = booking_for l x p r s

  same : InsertMeans l m p r s a → RemoveMeans a.layout a.marks.first room c → Same (tree c.layout) (tree l)
  same i o =
      let first : a.marks.first.place ≡ b.place 0 =
      ap (λ (n : NewMarks). n.first.place) i.done.marks ∙ first-place l.number b (piece_at l x)
      in
      let n = place_for a.layout a.marks.first.place in
      let last = a.layout.serial in
      let u : tree c.layout ≡ remove (b.place 0) n (last + 1) (book x b (tree l)) =
      o.done.next.tree ∙ ap (λ (y : ℕ). remove y n (last + 1) (tree a.layout)) first
      ∙ ap (remove (b.place 0) n (last + 1)) i.done.next.tree
      in
      let y = i.insertable in
      rw u
      (book-then-remove (tree l) x n (last + 1) (piece_at l x) b y.sound.sound y.there y.free i.inside
      (i.fresh.unheld 0 (omega (arith, new_two s))))

  pub booked-then-removed : InsertAccepted l m p r s a → RemoveAccepted a.layout a.marks.first room c → SameTree c.layout l
  unfolding snapshot_bytes
  booked-then-removed insert remove =
      let i = accepted-insert l m p r s a sized insert in
      (same i (accepted-remove a.layout a.marks.first room c i.done.next.sized remove)).bytes
