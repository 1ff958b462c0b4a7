-- What a call that hands a layout back has done: it was refused, and the layout is as it came, or it was accepted, and then all is known that
-- it asks: its contract's refusals did not apply, so the layout is sound, the mark names a piece that the call may take, and the next layout is the one
-- that the contract says. Rests on layout's laws of an accepted call (Admitted, Inserted, Gone, Tidying) and of marks (Marks), booking's Offering and
-- tree's Family. Assumes nothing.
use mathlib.Core.Path.{◌≡◌, refl, sym, ap, ◌∙◌}
use mathlib.Core.Bool.{Bool, true, false}
use mathlib.Core.Logic.{◌⊎◌, inl, inr}
use mathlib.Core.Option.{Option, none, some}
use Prim.Native.Nat.{ℕ, ◌+◌, ◌≤◌}
use native.Mathlib.Omega.{arith}
use lib.Dec.{eqb, leb}
use lib.ListN.{length}
use borrow.Author.Tests.{eqb-true, leb-true}
use Rattle.std.specs.Prelude.{Ok}
use Rattle.piece.specs.declared.rotation.Rotation.{Rotation}
use Rattle.piece.specs.declared.parttype.PartType.{PartType}
use Rattle.piece.specs.declared.node.Datum.{Datum}
use Rattle.piece.specs.declared.insertion_blueprint.InsertionShape.{InsertionShape}
use Rattle.piece.specs.Offers.{fits, turned}
use Rattle.piece.specs.declared.settings.Opening.{Opening}
use Rattle.piece.proofs.Offering.{offered-says}
use Rattle.lists.proofs.Scan.{clash}
use Rattle.tree.specs.Accepted.{Fresh}
use Rattle.tree.specs.Tidy.{empties}
use Rattle.tree.proofs.Family.{fresh-booking}
use Rattle.marks.specs.declared.Mark.{Mark}
use Rattle.marks.specs.declared.Refusal.{Refusal}
use Rattle.marks.specs.declared.Refusal.TheVariants.{BufferTooShort, NotSound, SerialsSpent}
use Rattle.layout.specs.declared.layout.Layout.{Layout}
use Rattle.layout.specs.declared.insert.Inserted.{Inserted}
use Rattle.layout.specs.declared.remove.Removed.{Removed}
use Rattle.layout.specs.declared.tidy.Tidied.{Tidied}
use Rattle.layout.specs.Check.{limit, max_serial, tree, domain_b, sound_b}
use Rattle.layout.specs.SoundLayout.{Sized, SoundLayout}
use Rattle.layout.specs.Open.{fresh_layout, open_of}
use Rattle.layout.specs.Insert.{booking_for, insert_is, insert_no, InsertDone, InsertSays, piece_at}
use Rattle.layout.specs.Inner.{Insertable, Takeable}
use Rattle.layout.specs.Remove.{remove_is, remove_no, RemoveDone, RemoveSays, numbers_out, room_no}
use Rattle.layout.specs.Tidy.{TidyDone, TidySays, tidy_is, tidy_no}
use Rattle.layout.specs.Restore.{greater, with_serial, restore_of}
use Rattle.layout.proofs.Exactly.{sound-says}
use Rattle.layout.proofs.Listed.{piece_is}
use Rattle.layout.proofs.Marks.{sought-names}
use Rattle.layout.proofs.Admitted.{admitted, insertable, passed}
use Rattle.layout.proofs.Inserted.{insert-accepted}
use Rattle.layout.proofs.Gone.{may-take, none_passes, remove-accepted}
use Rattle.layout.proofs.Tidying.{TidiesMeans, tidies-means, tidy-accepted}
use Rattle.demands.specs.Life.{NamesPiece}
use Rattle.demands.specs.Calls.{InsertAccepted, RemoveAccepted, TidyAccepted}

-- ---- the opening

-- it was accepted: the layout is the fresh one, and the mark that of its free piece
pub opened-so : (o : Opening) (m : Mark)
    → (open_of o).outcome ≡ Ok m
    → (domain_b o.settings ≡ true) × ((open_of o).layout ≡ fresh_layout o)
    × (m ≡ record { layout = o.number; place = 1; serial = 2 })
unfolding open_of
opened-so o m h = go (domain_b o.settings) refl
  where
    go : (b : Bool) → domain_b o.settings ≡ b
        → (domain_b o.settings ≡ true) × ((open_of o).layout ≡ fresh_layout o)
        × (m ≡ record { layout = o.number; place = 1; serial = 2 })
    go true e = let z = rw e at h in (e, rw e refl, cc)
    go false e = let z = rw e at h in absurd (clash (cc))

-- ---- `insert`

-- it is refused, and the layout is as it came; or it is accepted
pub inserted-so : (l : Layout) (m : Mark) (p : PartType) (r : Rotation) (s : InsertionShape) (a : Inserted) → Sized l → InsertSays l m p r s a
    → (a.layout ≡ l) ⊎ (Insertable l m.place p r s × InsertDone l m.place (booking_for l m.place p r s) a)
unfolding InsertSays
inserted-so l m p r s a sized says = go (insert_no l m p r s) refl says
  where
    go : (o : Option Refusal) → insert_no l m p r s ≡ o → insert_is o l m.place (booking_for l m.place p r s) a
        → (a.layout ≡ l) ⊎ (Insertable l m.place p r s × InsertDone l m.place (booking_for l m.place p r s) a)
    go none e done = inr (insertable l m p r s sized e, done)
    go (some e) z refused = inl (ap (λ (n : Inserted). n.layout) refused)

-- what an accepted `insert` had to book, and what came of it
pub record InsertMeans (l : Layout) (m : Mark) (p : PartType) (r : Rotation) (s : InsertionShape) (a : Inserted) : Type 0 where
  pub insertable : Insertable l m.place p r s
  pub number : m.layout ≡ l.number
  pub serial : (piece_at l m.place).serial ≡ m.serial
  pub inside : fits (piece_at l m.place).size (turned r p.size) ≡ true
  pub fresh : Fresh limit m.place (booking_for l m.place p r s) (tree l)
  pub done : InsertDone l m.place (booking_for l m.place p r s) a

-- a booking that is accepted has new places: "A new node takes the lowest unheld place"
pub insertable-fresh : (l : Layout) (x : ℕ) (p : PartType) (r : Rotation) (s : InsertionShape) → Insertable l x p r s
    → Fresh limit x (booking_for l x p r s) (tree l)
insertable-fresh l x p r s y =
    fresh-booking limit l.settings (tree l) y.sound.sound x (piece_at l x) y.there y.free (booking_for l x p r s)
    (λ j h. refl) (omega (arith, y.room, y.sound.held))

pub accepted-insert : (l : Layout) (m : Mark) (p : PartType) (r : Rotation) (s : InsertionShape) (a : Inserted) → Sized l
    → InsertAccepted l m p r s a → InsertMeans l m p r s a
accepted-insert l m p r s a sized h =
    let d = insert-accepted l m p r s a h.says h.done in
    let y = admitted l m p r s sized d.0 in
    record {
      insertable = y.1;
      number = y.0.layout;
      serial = y.0.serial;
      inside = (offered-says (piece_at l m.place) p l.settings r s y.1.offered).inside;
      fresh = insertable-fresh l m.place p r s y.1;
      done = d.1;
    }

-- its mark names the free piece that it takes
pub insert-names : {l : Layout} {m : Mark} {p : PartType} {r : Rotation} {s : InsertionShape} {a : Inserted} → InsertMeans l m p r s a → NamesPiece l m
insert-names i = record { number = i.number; there = i.insertable.there; serial = i.serial }

-- ---- `remove`

pub removed-so : (l : Layout) (m : Mark) (room : ℕ) (a : Removed) → Sized l → RemoveSays l m room a
    → (a.layout ≡ l) ⊎ (Takeable l m.place × RemoveDone l m.place a)
unfolding RemoveSays
removed-so l m room a sized says = go (remove_no l m room) refl says
  where
    go : (o : Option Refusal) → remove_no l m room ≡ o → remove_is o l m.place a
        → (a.layout ≡ l) ⊎ (Takeable l m.place × RemoveDone l m.place a)
    go none e done = inr (may-take l m room sized e, done)
    go (some e) z refused = inl (ap (λ (n : Removed). n.layout) refused)

-- what an accepted `remove` took out, and what came of it
pub record RemoveMeans (l : Layout) (m : Mark) (room : ℕ) (a : Removed) : Type 0 where
  pub takeable : Takeable l m.place
  pub number : m.layout ≡ l.number
  pub serial : (piece_at l m.place).serial ≡ m.serial
  pub fits : length (numbers_out l m.place) ≤ room
  pub done : RemoveDone l m.place a

-- refusal 13 does not apply
room-past : (l : Layout) (x room : ℕ) → room_no l x room ≡ none → length (numbers_out l x) ≤ room
unfolding room_no
room-past l x room h =
    leb-true (length (numbers_out l x)) room (passed (leb (length (numbers_out l x)) room) none BufferTooShort h).0

pub accepted-remove : (l : Layout) (m : Mark) (room : ℕ) (a : Removed) → Sized l → RemoveAccepted l m room a → RemoveMeans l m room a
accepted-remove l m room a sized h =
    let d = remove-accepted l m room a h.says h.done in
    let p = none_passes l m room d.0 in
    let can = may-take l m room sized d.0 in
    let named = sought-names l can.sound m p.piece p.named in
    record {
      takeable = can;
      number = named.layout;
      serial =
          ap (λ (x : Datum). x.serial) (piece_is l.nodes (tree l) can.sound.holds m.place p.piece named.there)
          ∙ named.serial;
      fits = room-past l m.place room p.roomy;
      done = d.1;
    }

-- its mark names the piece that goes
pub remove-names : {l : Layout} {m : Mark} {room : ℕ} {a : Removed} → RemoveMeans l m room a → NamesPiece l m
remove-names {l} {m} i =
    let o = i.takeable.removable in
    let is = piece_is l.nodes (tree l) i.takeable.sound.holds m.place o.piece o.there in
    record { number = i.number; there = rw is o.there; serial = i.serial }

-- ---- `tidy`

-- what an accepted `tidy` had before it, and what came of it
pub record TidyMeans (l : Layout) (a : Tidied) : Type 0 where
  pub was : SoundLayout l
  pub enough : l.serial + empties (tree l) ≤ max_serial
  pub done : TidyDone l a
  pub means : TidiesMeans l a.count a.layout

-- refusals 1 and 9 do not apply
not-refused : (l : Layout) (a : Tidied) → Sized l → tidy_no l ≡ none → TidyDone l a → TidyMeans l a
unfolding tidy_no
not-refused l a sized h done =
    let sum = l.serial + empties (tree l) in
    let p = passed (sound_b l) _ NotSound h in
    let was = sound-says l sized p.0 in
    let enough = leb-true sum max_serial (passed (leb sum max_serial) none SerialsSpent p.1).0 in
    record { was = was; enough = enough; done = done; means = tidies-means was sized enough done.tidies }

pub tidied-so : (l : Layout) (a : Tidied) → Sized l → TidySays l a → (a.layout ≡ l) ⊎ TidyMeans l a
unfolding TidySays
tidied-so l a sized says = go (tidy_no l) refl says
  where
    go : (o : Option Refusal) → tidy_no l ≡ o → tidy_is o l a → (a.layout ≡ l) ⊎ TidyMeans l a
    go none e done = inr (not-refused l a sized e done)
    go (some e) z refused = inl (ap (λ (n : Tidied). n.layout) refused)

pub accepted-tidy : (l : Layout) (a : Tidied) → Sized l → TidyAccepted l a → TidyMeans l a
accepted-tidy l a sized h = let d = tidy-accepted l a h.says h.done in not-refused l a sized d.0 d.1

-- ---- `restore`

-- k is put back: both are sound, and of one number
pub record PutBack (l k : Layout) : Type 0 where
  pub was : sound_b l ≡ true
  pub kept : sound_b k ≡ true
  pub number : k.number ≡ l.number
  pub is : (restore_of l k).layout ≡ with_serial k (greater l.serial k.serial)

pub restored-so : (l k : Layout) → (((restore_of l k).outcome ≡ Ok tt → ⊥) × ((restore_of l k).layout ≡ l)) ⊎ PutBack l k
unfolding restore_of
restored-so l k = go (sound_b l) (sound_b k) (eqb l.number k.number) refl refl refl
  where
    go : (a b c : Bool) → sound_b l ≡ a → sound_b k ≡ b → eqb l.number k.number ≡ c
        → (((restore_of l k).outcome ≡ Ok tt → ⊥) × ((restore_of l k).layout ≡ l)) ⊎ PutBack l k
    go true true true x y z =
        inr (record { was = x; kept = y; number = sym (eqb-true l.number k.number z); is = rw (x, y, z) refl })
    go true true false x y z = inl (rw (x, y, z) ((λ d. clash (cc)), refl))
    go true false c x y z = inl (rw (x, y) ((λ d. clash (cc)), refl))
    go false b c x y z = inl (rw x ((λ d. clash (cc)), refl))
