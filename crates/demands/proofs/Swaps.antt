-- Demand 3, and document 02, No. 10: two steps in either order. Where one order of two calls is accepted, and the second mark names a piece before it, the other
-- order gives the same tree, and is refused with nothing but 8: said once, of any two steps of which the second, made first, is not in the way of the first
-- (Stepped); then of two bookings, of two removals, and of a booking and a removal. Assumes nothing.
use mathlib.Core.Path.{◌≡◌, refl, sym, ap}
use mathlib.Core.Bool.{true}
use mathlib.Core.List.{[], ◌∷◌}
use mathlib.Core.Logic.{◌⊎◌, inl, inr, ⊎_elim}
use mathlib.Core.Option.{none}
use Prim.Native.Nat.{ℕ, ◌+◌, ◌-◌, ◌≤◌}
use native.Mathlib.Omega.{arith}
use borrow.Author.Tests.{le-leb, leb-true}
use Rattle.std.specs.Prelude.{Err}
use Rattle.piece.specs.declared.rotation.Rotation.{Rotation}
use Rattle.piece.specs.declared.parttype.PartType.{PartType}
use Rattle.piece.specs.declared.node.Datum.{Datum}
use Rattle.piece.specs.declared.node.Kind.TheVariants.{Free}
use Rattle.piece.specs.declared.insertion_blueprint.InsertionShape.{InsertionShape}
use Rattle.piece.specs.Insertion.{new_nodes}
use Rattle.tree.specs.Tree.{At, Inside}
use Rattle.tree.specs.Removal.{cleared}
use Rattle.tree.specs.Family.{parent_of}
use Rattle.tree.proofs.Rows.{at_in}
use Rattle.tree.proofs.Kept.{free-alone}
use Rattle.tree.proofs.Beside.{left-outside}
use Rattle.tree.proofs.Others.{alone-inside}
use Rattle.marks.specs.declared.Mark.{Mark}
use Rattle.marks.specs.declared.Refusal.TheVariants.{TooManyNodes}
use Rattle.layout.specs.declared.layout.Layout.{Layout}
use Rattle.layout.specs.declared.insert.Inserted.{Inserted}
use Rattle.layout.specs.declared.remove.Removed.{Removed}
use Rattle.layout.specs.Check.{limit, max_serial, tree}
use Rattle.layout.specs.SoundLayout.{Sized, SoundLayout}
use Rattle.layout.specs.Insert.{InsertDone, InsertSays, booking_for, insert_no, piece_at}
use Rattle.layout.specs.Remove.{RemoveDone, RemoveSays, remove_no}
use Rattle.layout.proofs.Admitted.{sound-counts}
use Rattle.layout.proofs.Refusals.{refused-insert}
use Rattle.demands.specs.Life.{NamesPiece}
use Rattle.demands.specs.Calls.{InsertAccepted, RemoveAccepted, SameTree}
use Rattle.demands.specs.Orders.{Accepted, OnlyEight, Step, booking, empty, first, mark_of, nothing, place_of, refusal_of, removal, then}
use Rattle.demands.proofs.BookedThenRemoved.{new_two}
use Rattle.demands.proofs.Leaves.{names-left, piece-now}
use Rattle.demands.proofs.Stepped.{Lets, Stepped, left_by, new_of, ready-after, ready-before, room_b, stepped}
use Rattle.demands.proofs.EveryOrder.{left-differs, same-tree}
use Rattle.demands.proofs.NothingButEight.{ready-eight, ready-none}

-- ---- any two steps

-- nothing is inside a free piece
free-hollow : (l : Layout) → SoundLayout l → (x i : ℕ) (d : Datum) → At x d (tree l) → d.kind ≡ Free → Inside x i (tree l) → ⊥
free-hollow l sound x i d there free =
    let w = sound.sound in alone-inside x i d (tree l) (free-alone l.settings x d (tree l) w.topped w.distinct there free)

-- what a step leaves was not inside its piece
left-not-inside : {l n : Layout} (s : Step) → Stepped l s n → (y : ℕ) (e : Datum) → At y e (left_by l s) → Inside (place_of s) y (tree l) → ⊥
left-not-inside {l} (booking m p r i) st y e h =
    free-hollow l st.leaves.before m.place y (piece_at l m.place) st.ready.names.there st.ready.meets
left-not-inside {l} (removal m room) st y e h =
    left-outside m.place y (tree l) st.leaves.before.sound.distinct (at_in y e (cleared m.place (tree l)) h)

-- s and then s' are accepted, to b; and the mark of s' names a piece before
pub record Two (l : Layout) (s s' : Step) (a b : Layout) : Type 0 where
  pub sized : Sized l
  pub one : Accepted l s a
  pub two : Accepted a s' b
  pub named : NamesPiece l (mark_of s')

-- the other way round: s' on l, and then s, are refused with nothing but 8, and come to the same tree
pub record Swapped (l : Layout) (s s' : Step) (b : Layout) : Type 0 where
  pub first : OnlyEight (refusal_of l s')
  pub roomy : room_b l s' ≡ true → refusal_of l s' ≡ none
  pub then : (c : Layout) → Accepted l s' c → room_b c s ≡ true → refusal_of c s ≡ none
  pub same : (c d : Layout) → Accepted l s' c → Accepted c s d → SameTree b d

module _ {l a b : Layout} {s s' : Step} (q : Two l s s' a b) where
  now : Stepped l s a
  now = stepped l q.sized s a q.one

  later : Stepped a s' b
  later = stepped a now.sized s' b q.two

  -- the piece of s' is among what s leaves, as it is: another one, and not inside that of s
  left : At (place_of s') (piece_at l (place_of s')) (left_by l s)
  left = names-left now.leaves (mark_of s') q.named later.ready.names

  different : place_of s' ≡ place_of s → ⊥
  different e = left-differs s now (place_of s') (piece_at l (place_of s')) left (sym e)

  not-inside : Inside (place_of s) (place_of s') (tree l) → ⊥
  not-inside = left-not-inside s now (place_of s') (piece_at l (place_of s')) left

  piece-was : piece_at a (place_of s') ≡ piece_at l (place_of s')
  piece-was = piece-now now.leaves (place_of s') (piece_at l (place_of s')) left

  -- where it is not in the way of s
  swapped : Lets l s' s → Swapped l s s' b
  swapped lets =
      let sound = now.leaves.before in
      let ready = ready-before now s' lets.outside q.named later.ready in
      let enough : l.serial + new_of s + new_of s' ≤ max_serial = omega (arith, later.leaves.after.serials.spent, later.serial, now.serial) in
      record {
        first = ready-eight l q.sized sound s' ready (omega arith);
        roomy = ready-none l q.sized sound s' ready (omega arith);
        then = λ c other.
            let st = stepped l q.sized s' c other in
            ready-none c st.sized st.leaves.after s (ready-after st s lets now.ready) (omega (arith, st.serial));
        same = λ c d other last.
            same-tree l q.sized (s ∷ s' ∷ []) (s' ∷ s ∷ []) (first s (s' ∷ []) [] (first s' [] [] empty)) (now.ready.names, (q.named, tt)) b d
            (then s (s' ∷ []) q.one (then s' [] q.two nothing)) (then s' (s ∷ []) other (then s [] last nothing));
      }

-- a call that nothing refuses is accepted; and one that is refused with nothing but 8 is, or is refused with 8
pub insert-none : (l : Layout) (m : Mark) (p : PartType) (r : Rotation) (s : InsertionShape) (a : Inserted) → insert_no l m p r s ≡ none → InsertSays l m p r s a
    → InsertAccepted l m p r s a
unfolding InsertSays
insert-none l m p r s a h says =
    let d : InsertDone l m.place (booking_for l m.place p r s) a = rw h at says in record { says = says; done = d.outcome }

pub remove-none : (l : Layout) (m : Mark) (room : ℕ) (a : Removed) → remove_no l m room ≡ none → RemoveSays l m room a → RemoveAccepted l m room a
unfolding RemoveSays
remove-none l m room a h says = let d : RemoveDone l m.place a = rw h at says in record { says = says; done = d.outcome }

insert-eight : (l : Layout) (m : Mark) (p : PartType) (r : Rotation) (s : InsertionShape) (a : Inserted) → OnlyEight (insert_no l m p r s)
    → InsertSays l m p r s a → InsertAccepted l m p r s a ⊎ (a.outcome ≡ Err TooManyNodes)
insert-eight l m p r s a (inl h) says = inl (insert-none l m p r s a h says)
insert-eight l m p r s a (inr h) says = inr (ap (λ (x : Inserted). x.outcome) (refused-insert l m p r s a TooManyNodes h says))

-- ---- two bookings

module _ (l : Layout) (sized : Sized l) (m : Mark) (p : PartType) (r : Rotation) (s : InsertionShape)
    (m' : Mark) (p' : PartType) (r' : Rotation) (s' : InsertionShape) (named : NamesPiece l m') (a b c d : Inserted) where
  -- the free pieces are different, so each is outside the other
  pub inserts-commute : InsertAccepted l m p r s a → InsertAccepted a.layout m' p' r' s' b → InsertSays l m' p' r' s' c
      → InsertSays c.layout m p r s d
      → InsertAccepted l m' p' r' s' c × InsertAccepted c.layout m p r s d × SameTree b.layout d.layout
  inserts-commute one two says after =
      let B = booking m p r s in
      let B' = booking m' p' r' s' in
      let q : Two l B B' a.layout b.layout = record { sized = sized; one = (a, one, refl); two = (b, two, refl); named = named } in
      let was = (now q).leaves.before in
      let free : (piece_at l m'.place).kind ≡ Free = rw (← piece-was q) (later q).ready.meets in
      let lets : Lets l B' B =
      record {
        different = different q;
        outside = free-hollow l was m'.place m.place (piece_at l m'.place) named.there free;
        inside = not-inside q;
        parents = λ j e. j;
      }
      in
      let w = swapped q lets in
      let room : a.layout.held - 1 + new_nodes s' ≤ limit = leb-true (a.layout.held - 1 + new_nodes s') limit (later q).room in
      let other =
      insert-none l m' p' r' s' c (w.roomy (le-leb (l.held - 1 + new_nodes s') limit (omega (arith, (now q).held, new_two s)))) says
      in
      let st = stepped l sized B' c.layout (c, other, refl) in
      let last =
      insert-none c.layout m p r s d
      (w.then c.layout (c, other, refl)
      (le-leb (c.layout.held - 1 + new_nodes s) limit (omega (arith, (now q).held, st.held, new_two s, new_two s', (sound-counts l was).0)))) after
      in
      (other, last, w.same c.layout d.layout (c, other, refl) (d, last, refl))

-- ---- two removals

module _ (l : Layout) (sized : Sized l) (m m' : Mark) (named : NamesPiece l m') (outside : Inside m'.place m.place (tree l) → ⊥) (room room' : ℕ)
    (a b c d : Removed) where
  pub removes-commute : RemoveAccepted l m room a → RemoveAccepted a.layout m' room' b → RemoveSays l m' room' c → RemoveSays c.layout m room d
      → RemoveAccepted l m' room' c × RemoveAccepted c.layout m room d × SameTree b.layout d.layout
  removes-commute one two says after =
      let R = removal m room in
      let R' = removal m' room' in
      let q : Two l R R' a.layout b.layout = record { sized = sized; one = (a, one, refl); two = (b, two, refl); named = named } in
      let lets : Lets l R' R = record { different = different q; outside = outside; inside = not-inside q; parents = λ j e. j } in
      let w = swapped q lets in
      let other = remove-none l m' room' c (w.roomy refl) says in
      let last = remove-none c.layout m room d (w.then c.layout (c, other, refl) refl) after in
      (other, last, w.same c.layout d.layout (c, other, refl) (d, last, refl))

-- ---- a booking and a removal

module _ (l : Layout) (sized : Sized l) (m : Mark) (p : PartType) (r : Rotation) (s : InsertionShape) (m' : Mark) (room : ℕ) where
  abbrev B : Step
  B = booking m p r s

  abbrev R : Step
  R = removal m' room

  -- the booking first: the removal joins no free piece of its row to what it takes out, since the one that is booked is under another parent
  pub insert-remove : NamesPiece l m' → (Inside m'.place m.place (tree l) → ⊥)
      → (parent_of limit m.place (tree l) ≡ parent_of limit m'.place (tree l) → ⊥)
      → (a : Inserted) (b c : Removed) (d : Inserted) → InsertAccepted l m p r s a → RemoveAccepted a.layout m' room b
      → RemoveSays l m' room c → InsertSays c.layout m p r s d
      → RemoveAccepted l m' room c × InsertAccepted c.layout m p r s d × SameTree b.layout d.layout
  insert-remove named outside parents a b c d one two says after =
      let q : Two l B R a.layout b.layout = record { sized = sized; one = (a, one, refl); two = (b, two, refl); named = named } in
      let lets : Lets l R B = record { different = different q; outside = outside; inside = not-inside q; parents = λ j e. parents (sym e) } in
      let w = swapped q lets in
      let other = remove-none l m' room c (w.roomy refl) says in
      let st = stepped l sized R c.layout (c, other, refl) in
      let had : l.held - 1 + new_nodes s ≤ limit = leb-true (l.held - 1 + new_nodes s) limit (now q).room in
      let last =
      insert-none c.layout m p r s d
      (w.then c.layout (c, other, refl) (le-leb (c.layout.held - 1 + new_nodes s) limit (omega (arith, st.held)))) after
      in
      (other, last, w.same c.layout d.layout (c, other, refl) (d, last, refl))

  -- the removal first: that they are apart follows; the booking, when it comes first, may be refused with 8
  pub remove-insert : NamesPiece l m → (a : Removed) (b c : Inserted) (d : Removed) → RemoveAccepted l m' room a → InsertAccepted a.layout m p r s b
      → InsertSays l m p r s c → RemoveSays c.layout m' room d
      → (c.outcome ≡ Err TooManyNodes)
      ⊎ (InsertAccepted l m p r s c × RemoveAccepted c.layout m' room d × SameTree b.layout d.layout)
  remove-insert named a b c d one two says after =
      let q : Two l R B a.layout b.layout = record { sized = sized; one = (a, one, refl); two = (b, two, refl); named = named } in
      let free : (piece_at l m.place).kind ≡ Free = rw (← piece-was q) (later q).ready.meets in
      let lets : Lets l B R =
      record {
        different = different q;
        outside = free-hollow l (now q).leaves.before m.place m'.place (piece_at l m.place) named.there free;
        inside = not-inside q;
        parents = λ j e. j;
      }
      in
      let w = swapped q lets in
      ⊎_elim
      (λ other. inr
      (let last = remove-none c.layout m' room d (w.then c.layout (c, other, refl) refl) after in
      (other, last, w.same c.layout d.layout (c, other, refl) (d, last, refl)))) inl (insert-eight l m p r s c w.first says)
