-- What an insertion is refused with, as its tests are made one after the other; and what is known when none refuses it. Assumes nothing.
use mathlib.Core.Path.{◌≡◌, refl, sym}
use mathlib.Core.Bool.{Bool, true, false, cond}
use mathlib.Core.Option.{Option, none, some}
use Prim.Native.Nat.{◌+◌, ◌-◌, ◌≤◌}
use native.Mathlib.Omega.{arith}
use lib.Dec.{leb}
use borrow.Author.Tests.{leb-true}
use Rattle.std.specs.Prelude.{Result, Ok, Err}
use Rattle.piece.specs.declared.rotation.Rotation.{Rotation}
use Rattle.piece.specs.declared.parttype.PartType.{PartType}
use Rattle.piece.specs.declared.node.Datum.{Datum}
use Rattle.piece.specs.declared.node.Kind.{Kind}
use Rattle.piece.specs.declared.node.Kind.TheVariants.{Free, Part, Structure}
use Rattle.piece.specs.declared.insertion_blueprint.InsertionShape.{InsertionShape}
use Rattle.piece.specs.declared.settings.Settings.{Settings}
use Rattle.piece.specs.Insertion.{new_nodes}
use Rattle.piece.specs.Row.{nil, grow}
use Rattle.piece.specs.Kinds.{is_free}
use Rattle.tree.specs.Tree.{Tree, count}
use Rattle.tree.specs.Sound.{Topped}
use Rattle.sound.proofs.Says.{clash}
use Rattle.marks.specs.declared.Mark.{Mark}
use Rattle.marks.specs.declared.Refusal.{Refusal}
use Rattle.marks.specs.declared.Refusal.TheVariants.{NotOffered, TooManyNodes, SerialsSpent}
use Rattle.piece.specs.Offered.{offered_b}
use Rattle.layout.specs.declared.layout.Layout.{Layout}
use Rattle.layout.specs.declared.insert.Inserted.{Inserted}
use Rattle.layout.specs.Check.{limit, max_serial, tree}
use Rattle.layout.specs.Asked.{free_piece_of}
use Rattle.layout.specs.SoundLayout.{SoundLayout, Sized}
use Rattle.layout.specs.Refusing.{outcome_of}
use Rattle.layout.specs.Insert.{InsertDone, InsertSays, book_no, booking_for, insert_no, piece_at, piece_no, refused_insert}
use Rattle.layout.specs.Inner.{Insertable}
use Rattle.layout.proofs.Exactly.{sound-says}
use Rattle.layout.proofs.Listed.{piece_is}
use Rattle.layout.proofs.Marks.{Names, headed, sought-names}

-- ---- a refusal, and none

pub nothing : {A : Type 0} {e : Refusal} → some e ≡ none → A
nothing h = absurd (clash (cc))

-- a test whose failure refuses was passed, and what comes after it does not refuse
pub passed : (t : Bool) (o : Option Refusal) (e : Refusal) → cond t o (some e) ≡ none → (t ≡ true) × (o ≡ none)
passed true o e h = (refl, h)
passed false o e h = nothing h

-- the outcome tells what it is refused with
pub outcome-some : (o : Option Refusal) (e : Refusal) → outcome_of o ≡ Err e → o ≡ some e
outcome-some none e h = absurd (clash (cc))
outcome-some (some x) e h = cc

pub outcome-none : (o : Option Refusal) → outcome_of o ≡ Ok tt → o ≡ none
outcome-none none h = refl
outcome-none (some x) h = absurd (clash (cc))

-- ---- an insertion

pub is_free-kind : (κ : Kind) → is_free κ ≡ true → κ ≡ Free
is_free-kind Free h = refl
is_free-kind Part h = absurd (clash h)
is_free-kind Structure h = absurd (clash h)

-- there is a top
some-piece : (settings : Settings) (w : Tree) → Topped settings w → 1 ≤ count w
some-piece settings nil h = absurd h
some-piece settings (grow p d k r) h = omega arith

-- what the tests of refusals 8 and 9 add to cannot overflow
pub sound-counts : (l : Layout) → SoundLayout l → (1 ≤ l.held) × (l.held ≤ limit) × (l.serial ≤ max_serial)
sound-counts l s =
    let least = some-piece l.settings (tree l) s.sound.topped in
    (omega (arith, s.held), omega (arith, s.held, s.sound.room), s.serials.spent)

module _ (l : Layout) (m : Mark) (p : PartType) (r : Rotation) (s : InsertionShape) where
  pub refused_says : (a : Inserted) (e : Refusal) → some e ≡ insert_no l m p r s → a ≡ refused_insert l e → InsertSays l m p r s a
  unfolding InsertSays
  refused_says a e h f = rw (sym h) f

  pub done-says : (a : Inserted) → none ≡ insert_no l m p r s → InsertDone l m.place (booking_for l m.place p r s) a → InsertSays l m p r s a
  unfolding InsertSays
  done-says a h f = rw (sym h) f

  -- the mark names a free piece, and that is not refused
  found-piece : (q : Result Datum Refusal) → piece_no l p r s q ≡ none → (d : Datum) × (q ≡ Ok d) × (book_no l d p r s ≡ none)
  found-piece (Err e) h = nothing h
  found-piece (Ok d) h = (d, refl, h)

  -- what book_no tests of a piece
  record Passes (d : Datum) : Type 0 where
    offered : offered_b d p l.settings r s ≡ true
    room : l.held - 1 + new_nodes s ≤ limit
    spent : l.serial + new_nodes s ≤ max_serial

  book-passes : (d : Datum) → book_no l d p r s ≡ none → Passes d
  unfolding book_no
  book-passes d h =
      let o = passed (offered_b d p l.settings r s) _ NotOffered h in
      let n = passed (leb (l.held - 1 + new_nodes s) limit) _ TooManyNodes o.1 in
      let k = passed (leb (l.serial + new_nodes s) max_serial) none SerialsSpent n.1 in
      record {
        offered = o.0;
        room = leb-true (l.held - 1 + new_nodes s) limit n.0;
        spent = leb-true (l.serial + new_nodes s) max_serial k.0;
      }

  -- of an insertion that nothing refuses the mark names the piece, and the part may be booked in it
  pub admitted : Sized l → insert_no l m p r s ≡ none → Names l m (piece_at l m.place) × Insertable l m.place p r s
  unfolding insert_no
  admitted sized h =
      let g = found-piece (free_piece_of l m p) h in
      let q = headed l m p g.0 g.1 in
      let sound = sound-says l sized q.sound in
      let found = sought-names l sound m g.0 q.named in
      let is : piece_at l m.place ≡ g.0 = piece_is l.nodes (tree l) sound.holds m.place g.0 found.there in
      let named : Names l m (piece_at l m.place) = rw is found in
      let y : Passes (piece_at l m.place) = rw is (book-passes g.0 g.2) in (
        named,
        record {
          sized = sized;
          sound = sound;
          there = named.there;
          free = rw is (is_free-kind g.0.kind q.free);
          part = q.part;
          offered = y.offered;
          room = y.room;
          spent = y.spent;
        },
      )

  pub insertable : Sized l → insert_no l m p r s ≡ none → Insertable l m.place p r s
  insertable sized h = (admitted sized h).1
