-- What document 01's "Removal" gives a caller of `remove`, on any answer that meets its contract (specs/Remove.antt): an accepted one gives a sound
-- layout, in which all that did not go stands as it did and keeps its mark; a refused one changes nothing. Assumes nothing.
use mathlib.Core.Path.{◌≡◌, refl, sym, ap, ◌∙◌}
use mathlib.Core.Bool.{Bool, true, false, cond}
use mathlib.Core.List.{List}
use mathlib.Core.Option.{Option, none, some}
use Prim.Native.Nat.{ℕ, ◌+◌, ◌≤◌}
use lib.ListN.{length}
use lib.Seq.{sets}
use Rattle.std.specs.Prelude.{Result, Ok, Err}
use Rattle.piece.specs.declared.node.Datum.{Datum}
use Rattle.piece.specs.Kinds.{is_free}
use Rattle.tree.specs.Tree.{At, Inside}
use Rattle.tree.specs.Removal.{cleared}
use Rattle.tree.proofs.Laws.UntouchedByRemoval.{untouched-by-removal}
use Rattle.tree.proofs.Laws.SolidUntouched.{solid-untouched-by-removal}
use Rattle.marks.specs.declared.Mark.{Mark}
use Rattle.marks.specs.declared.Refusal.{Refusal}
use Rattle.marks.specs.declared.Refusal.TheVariants.{NotSound}
use Rattle.sound.proofs.Says.{clash}
use Rattle.layout.specs.declared.layout.Layout.{Layout}
use Rattle.layout.specs.declared.remove.Removed.{Removed}
use Rattle.layout.specs.Check.{limit, tree, sound_b}
use Rattle.layout.specs.Asked.{sought_of}
use Rattle.layout.specs.SoundLayout.{SoundLayout, Sized}
use Rattle.layout.specs.Refusing.{or_else}
use Rattle.layout.specs.Remove.{RemoveDone, RemoveSays, go_no, going_no, numbers_left, numbers_out, place_for}
use Rattle.layout.specs.Inner.{Takeable}
use Rattle.layout.specs.Remove.{refused_remove, remove_is, remove_no, room_no}
use Rattle.layout.proofs.Marks.{Names}
use Rattle.layout.proofs.RemoveEnds.{takeable}
use Rattle.layout.proofs.TakenOut.{numbers-fewer}

-- ---- what the outcome says of the tests

done-means : (o : Option Refusal) (l : Layout) (x : ℕ) (a : Removed) → remove_is o l x a → a.outcome ≡ Ok tt → (o ≡ none) × RemoveDone l x a
done-means none l x a h d = (refl, h)
done-means (some e) l x a h d = let z : Err e ≡ Ok tt = sym (ap (λ (r : Removed). r.outcome) h) ∙ d in absurd (clash (cc))

refused-means : (o : Option Refusal) (l : Layout) (x : ℕ) (a : Removed) (e : Refusal) → remove_is o l x a → a.outcome ≡ Err e
    → (o ≡ some e) × (a ≡ refused_remove l e)
refused-means none l x a e h d = let z : (Ok tt) ≡ Err e = sym h.outcome ∙ d in absurd (clash (cc))
refused-means (some f) l x a e h d =
    let z : Err f ≡ Err e = sym (ap (λ (r : Removed). r.outcome) h) ∙ d in
    let same : f ≡ e = cc in
    (ap some same, h ∙ ap (refused_remove l) same)

-- past every test
pub record Passed (l : Layout) (m : Mark) (room : ℕ) : Type 0 where
  pub piece : Datum
  pub checked : sound_b l ≡ true
  pub named : sought_of l m ≡ Ok piece
  pub allowed : go_no l m.place piece ≡ none
  pub roomy : room_no l m.place room ≡ none

neither-refuses : (o p : Option Refusal) → or_else o p ≡ none → (o ≡ none) × (p ≡ none)
neither-refuses none p h = (refl, h)
neither-refuses (some e) p h = absurd (clash (cc))

pub none_passes : (l : Layout) (m : Mark) (room : ℕ) → remove_no l m room ≡ none → Passed l m room
unfolding remove_no
none_passes l m room h = go (sound_b l) refl (sought_of l m) refl h
  where
    go : (b : Bool) → sound_b l ≡ b → (f : Result Datum Refusal) → sought_of l m ≡ f → cond b (going_no l m.place room f) (some NotSound) ≡ none
        → Passed l m room
    go true e (Ok d) f h =
        let n = neither-refuses (go_no l m.place d) (room_no l m.place room) h in
        record { piece = d; checked = e; named = f; allowed = n.0; roomy = n.1 }
    go true e (Err r) f h = absurd (clash (cc))
    go false e f g h = absurd (clash (cc))

-- a removal that nothing refuses can be made
pub may-take : (l : Layout) (m : Mark) (room : ℕ) → Sized l → remove_no l m room ≡ none → Takeable l m.place
may-take l m room sized h =
    let p = none_passes l m room h in takeable l m p.piece sized p.checked p.named p.allowed

-- ---- an answer that meets the contract

module _ (l : Layout) (m : Mark) (room : ℕ) (a : Removed) (says : RemoveSays l m room a) where
  told : remove_is (remove_no l m room) l m.place a
  unfolding RemoveSays
  told = says

  -- refused: the layout comes back as it came, and all else is zero
  pub remove-refused : (e : Refusal) → a.outcome ≡ Err e → (remove_no l m room ≡ some e) × (a ≡ refused_remove l e)
  remove-refused e d = refused-means (remove_no l m room) l m.place a e told d

  module _ (done : a.outcome ≡ Ok tt) where
    pub remove-accepted : (remove_no l m room ≡ none) × RemoveDone l m.place a
    remove-accepted = done-means (remove_no l m room) l m.place a told done

    pub removed-done : RemoveDone l m.place a
    removed-done = remove-accepted.1

    -- the next layout is sound, and passes the check of the next call
    pub removed-sound : SoundLayout a.layout
    removed-sound = removed-done.next.sound

    -- what did not go stands where it stood, with its serial and all else that it is
    pub stays : (i : ℕ) (e : Datum) → At i e (cleared m.place (tree l)) → At i e (tree a.layout)
    stays i e y = rw removed-done.next.tree (untouched-by-removal (tree l) m.place (place_for l m.place) (l.serial + 1) i e y)

    -- and keeps its mark
    pub mark-stays : (n : Mark) (e : Datum) → Names l n e → At n.place e (cleared m.place (tree l)) → Names a.layout n e
    mark-stays n e h y =
        record { layout = h.layout ∙ sym removed-done.next.number; there = stays n.place e y; serial = h.serial }

    -- the numbers stand at the start of the buffer, and nothing else in it changes
    pub numbers-left : (out : List ℕ) → length out ≡ room → numbers_left l m out ≡ sets out 0 (numbers_out l m.place)
    unfolding numbers_left
    numbers-left out n = rw (n, remove-accepted.0) refl

    module _ (sized : Sized l) where
      removal-takeable : Takeable l m.place
      removal-takeable = may-take l m room sized remove-accepted.0

      -- of parts and structures all stay but the removed one and what is below it
      pub solid-stays : (i : ℕ) (e : Datum) → At i e (tree l) → is_free e.kind ≡ false → (i ≡ m.place → ⊥)
          → (Inside m.place i (tree l) → ⊥) → At i e (tree a.layout)
      solid-stays i e y solid other outside =
          let t = removal-takeable in
          rw removed-done.next.tree
          (solid-untouched-by-removal limit l.settings (tree l) m.place (place_for l m.place) (l.serial + 1) i e
          t.sound.sound t.removable y solid other outside)

      -- two nodes at least give no part number
      pub numbers-fewest : length (numbers_out l m.place) + 2 ≤ limit
      numbers-fewest = numbers-fewer l m.place removal-takeable

-- ---- what the counter's session cites

pub record TakenOut (l : Layout) (m : Mark) (room : ℕ) (a : Removed) : Type 0 where
  pub few : length (numbers_out l m.place) + 2 ≤ limit
  pub count : a.count ≡ length (numbers_out l m.place)
  pub left : (out : List ℕ) → length out ≡ room → numbers_left l m out ≡ sets out 0 (numbers_out l m.place)

pub remove-says : (l : Layout) (m : Mark) (room : ℕ) (a : Removed) → Sized l → RemoveSays l m room a → a.outcome ≡ Ok tt → TakenOut l m room a
remove-says l m room a sized says done =
    record {
      few = numbers-fewest l m room a says done sized;
      count = (removed-done l m room a says done).count;
      left = numbers-left l m room a says done;
    }
