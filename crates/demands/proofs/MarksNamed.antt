-- Demand 1, every mark that a call answers names a piece of the layout that it hands back, and of the kind that is meant: the opening's free
-- piece; a booking's first node, part and free pieces; a removal's free piece; and what a position of a list gives. It rests on the marks of a
-- block (booking), the new piece of a removal (removal) and looks' laws of marks. Assumes nothing.
use mathlib.Core.Path.{◌≡◌, refl, sym, ap, ◌∙◌}
use mathlib.Core.Bool.{Bool, true, false, cond}
use mathlib.Core.List.{Memᴰ}
use mathlib.Core.Logic.{inl, inr}
use Prim.Native.Nat.{ℕ, ◌+◌}
use lib.Dec.{ltb}
use lib.ListN.{take}
use borrow.Author.Tests.{ltb-true}
use Rattle.std.specs.Prelude.{Result, Ok, Err}
use Rattle.piece.specs.declared.rotation.Rotation.{Rotation}
use Rattle.piece.specs.declared.parttype.PartType.{PartType}
use Rattle.piece.specs.declared.node.Datum.{Datum}
use Rattle.piece.specs.declared.node.Kind.{Kind}
use Rattle.piece.specs.declared.node.Kind.TheVariants.{Free, Part, Structure}
use Rattle.piece.specs.declared.insertion_blueprint.InsertionShape.{InsertionShape}
use Rattle.piece.specs.Kinds.{is_free, is_part}
use Rattle.lists.proofs.Scan.{clash}
use Rattle.piece.specs.declared.settings.Opening.{Opening}
use Rattle.tree.specs.Tree.{Tree, At}
use Rattle.tree.specs.Open.{first_free}
use Rattle.tree.specs.Booking.{Booking, block}
use Rattle.tree.specs.Steps.{less}
use Rattle.tree.specs.Family.{new_place}
use Rattle.tree.proofs.BookPieces.{book-new}
use Rattle.marks.specs.declared.Mark.{Mark}
use Rattle.marks.specs.declared.Refusal.{Refusal}
use Rattle.booking.proofs.BlockMarks.{Of, every, block-first-is, block-first, block-part, block-frees}
use Rattle.removal.specs.Remove.{new_free}
use Rattle.removal.proofs.Pieces.{new-there}
use Rattle.removal.proofs.Serials.{new-serial, new-free}
use Rattle.layout.specs.declared.layout.Layout.{Layout}
use Rattle.layout.specs.declared.insert.Inserted.{Inserted}
use Rattle.layout.specs.declared.remove.Removed.{Removed}
use Rattle.layout.specs.Check.{limit, tree, sound_b}
use Rattle.layout.specs.SoundLayout.{SoundLayout, Sized}
use Rattle.layout.specs.Open.{fresh_layout, open_of}
use Rattle.layout.specs.Insert.{booking_for, piece_at, InsertDone, InsertSays}
use Rattle.layout.specs.Inner.{Insertable}
use Rattle.layout.specs.Remove.{place_for, RemoveSays}
use Rattle.layout.proofs.Listed.{piece_is}
use Rattle.layout.proofs.Admitted.{is_free-kind}
use Rattle.layout.proofs.Opened.{fresh-tree, fresh-sound}
use Rattle.questions.specs.Answers.{free_mark_of, removable_mark_of}
use Rattle.questions.proofs.ListMarks.{free-mark-names, removable-mark-names}
use Rattle.demands.specs.Life.{NamesPiece}
use Rattle.demands.proofs.Outcomes.{opened-so, accepted-insert, accepted-remove}

-- the mark names a piece of this kind
pub record NamesKind (k : Kind) (l : Layout) (m : Mark) : Type 0 where
  pub names : NamesPiece l m
  pub kind : (piece_at l m.place).kind ≡ k

-- ---- the piece d of a sound layout has the mark

module _ (l : Layout) (sound : SoundLayout l) (m : Mark) (d : Datum) (number : m.layout ≡ l.number) (there : At m.place d (tree l))
    (serial : d.serial ≡ m.serial) where
  is : piece_at l m.place ≡ d
  is = piece_is l.nodes (tree l) sound.holds m.place d there

  named : NamesPiece l m
  named = record { number = number; there = rw is there; serial = ap (λ (e : Datum). e.serial) is ∙ serial }

  kind-named : (k : Kind) → d.kind ≡ k → NamesKind k l m
  kind-named k e = record { names = named; kind = ap (λ (f : Datum). f.kind) is ∙ e }

-- ---- the opening

pub open-mark-names : (o : Opening) (m : Mark)
    → (open_of o).outcome ≡ Ok m → NamesKind Free (open_of o).layout m
unfolding fresh_layout
open-mark-names o m h =
    let z = opened-so o m h in
    let l = fresh_layout o in
    let there : At 1 (first_free o) (tree l) = rw (fresh-tree o) (inr (inl (inl (refl, refl)))) in
    rw (z.1, z.2)
    (kind-named l (fresh-sound o z.0) (record { layout = o.number; place = 1; serial = 2 }) (first_free o) refl
    there refl Free refl)

-- ---- insert

is-part : (κ : Kind) → is_part κ ≡ true → κ ≡ Part
is-part Free h = absurd (clash h)
is-part Part h = refl
is-part Structure h = absurd (clash h)

-- the marks that an accepted booking in the piece at x answers: the first of the new nodes, the part, and the free pieces
pub record BookedMarks (l : Layout) (x : ℕ) (p : PartType) (r : Rotation) (s : InsertionShape) (a : Inserted) : Type 0 where
  pub first : NamesPiece a.layout a.marks.first
  pub first_is : a.marks.first ≡ record { layout = l.number; place = new_place limit (less x (tree l)) 0; serial = l.serial + 1 }
  pub part : NamesKind Part a.layout a.marks.part
  pub part_is : At a.marks.part.place (piece_at a.layout a.marks.part.place) (block (booking_for l x p r s) (piece_at l x))
  pub frees : (k : Mark) → Memᴰ k (take a.marks.count a.marks.frees) → NamesKind Free a.layout k

module _ (l : Layout) (x : ℕ) (p : PartType) (r : Rotation) (s : InsertionShape) (can : Insertable l x p r s) (a : Inserted)
    (done : InsertDone l x (booking_for l x p r s) a) where
  abbrev b : Booking
  b = booking_for l x p r s

  abbrev w : Tree
  w = block b (piece_at l x)

  -- the mark of a piece of the block
  module _ (test : Kind → Bool) (k : Mark) (o : Of l.number test w k) where
    here : At k.place o.piece (tree a.layout)
    here =
        rw done.next.tree
        (book-new limit l.settings (tree l) can.sound.sound x (piece_at l x) can.there can.free b k.place
        o.piece o.there)

    number : k.layout ≡ a.layout.number
    number = o.layout ∙ sym done.next.number

    of-names : NamesPiece a.layout k
    of-names = named a.layout done.next.sound k o.piece number here o.serial

    of-kind : (c : Kind) → o.piece.kind ≡ c → NamesKind c a.layout k
    of-kind = kind-named a.layout done.next.sound k o.piece number here o.serial

    of-block : At k.place (piece_at a.layout k.place) w
    of-block = rw (is a.layout done.next.sound k o.piece number here o.serial) o.there

  booked-marks : BookedMarks l x p r s a
  booked-marks =
      let f : Of l.number every w a.marks.first = rw done.marks (block-first l.number b (piece_at l x)) in
      let t : Of l.number is_part w a.marks.part = rw done.marks (block-part l.number b (piece_at l x)) in
      record {
        first = of-names every a.marks.first f;
        first_is = rw done.marks (block-first-is l.number b (piece_at l x));
        part = of-kind is_part a.marks.part t Part (is-part t.piece.kind t.kind);
        part_is = of-block is_part a.marks.part t;
        frees =
            λ k m.
            let o = block-frees l.number b (piece_at l x) k (rw done.marks at m) in
            of-kind is_free k o Free (is_free-kind o.piece.kind o.kind);
      }

pub insert-marks-name : (l : Layout) (m : Mark) (p : PartType) (r : Rotation) (s : InsertionShape) (a : Inserted) → Sized l
    → InsertSays l m p r s a → a.outcome ≡ Ok tt → BookedMarks l m.place p r s a
insert-marks-name l m p r s a sized says answer =
    let z = accepted-insert l m p r s a sized (record { says = says; done = answer }) in booked-marks l m.place p r s z.insertable a z.done

-- ---- remove

pub remove-mark-names : (l : Layout) (m : Mark) (room : ℕ) (a : Removed) → Sized l → RemoveSays l m room a → a.outcome ≡ Ok tt
    → NamesKind Free a.layout a.free
remove-mark-names l m room a sized says answer =
    let z = accepted-remove l m room a sized (record { says = says; done = answer }) in
    let can = z.takeable in
    let done = z.done in
    let n = place_for l m.place in
    let e = new_free l.nodes m.place l.serial in
    let there : At n e (tree a.layout) =
    rw done.next.tree
    (new-there limit l.settings l.nodes (tree l) can.sound.sound can.sound.holds m.place
    can.removable n l.serial)
    in
    rw done.free
    (kind-named a.layout done.next.sound (record { layout = l.number; place = n; serial = l.serial + 1 }) e
    (sym done.next.number) there (new-serial l.nodes m.place l.serial) Free (new-free l.nodes m.place l.serial))

-- ---- the two lists

-- a position gives a mark only below the list's end
within : (a b : Bool) (k m : Mark) (e f : Refusal) → cond a (cond b (Ok k) (Err e)) (Err f) ≡ Ok m
    → b ≡ true
within true true k m e f h = refl
within true false k m e f h = absurd (clash (cc))
within false b k m e f h = absurd (clash (cc))

same_answer : (o : Result Mark Refusal) (k m : Mark) → o ≡ Ok k → o ≡ Ok m → k ≡ m
same_answer o k m x y = cc

module _ (l : Layout) (sized : Sized l) (sound : SoundLayout l) (k : ℕ) (m : Mark) where
  pub free-position-names : free_mark_of l k ≡ Ok m → NamesKind Free l m
  unfolding free_mark_of
  free-position-names h =
      let b = ltb-true k l.frees (within (sound_b l) (ltb k l.frees) _ m _ _ h) in
      let z = free-mark-names l sound sized k b in
      rw (same_answer (free_mark_of l k) m z.0 h z.2)
      (kind-named l sound z.0 z.1 z.3.layout z.3.there z.3.serial Free z.4)

  -- a part or a structure
  pub removable-position-names : removable_mark_of l k ≡ Ok m → NamesPiece l m × (is_free (piece_at l m.place).kind ≡ false)
  unfolding removable_mark_of
  removable-position-names h =
      let b = ltb-true k l.removables (within (sound_b l) (ltb k l.removables) _ m _ _ h) in
      let z = removable-mark-names l sound sized k b in
      let n = named l sound z.0 z.1 z.3.layout z.3.there z.3.serial in
      let i = is l sound z.0 z.1 z.3.layout z.3.there z.3.serial in
      rw (same_answer (removable_mark_of l k) m z.0 h z.2) (n, rw i z.4)
