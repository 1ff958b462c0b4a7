-- Document 02, No. 10: what steps that are apart are refused with. A step that a layout refuses with nothing but 8 or 9 is refused with nothing but 8 or 9 after
-- any steps that are apart from it; and where a list of such steps is accepted in one order, a step of it is refused with nothing but 8 in every other. Rests on
-- Stepped and EveryOrder, and on layout's laws of the tests of a call (Admitted, Marks, RemoveEnds). Assumes nothing.
use mathlib.Core.Path.{◌≡◌, refl, sym, ap, ◌∙◌}
use mathlib.Core.Bool.{Bool, true, false, cond}
use mathlib.Core.List.{List, ◌∷◌, ◌++◌}
use mathlib.Core.Logic.{◌⊎◌, inl, inr, ⊎_elim}
use mathlib.Core.Option.{Option, none, some}
use Prim.Native.Nat.{ℕ, ◌+◌, ◌-◌, ◌≤◌, ◌<◌}
use native.Mathlib.Omega.{arith}
use lib.Dec.{eqb, leb}
use lib.ListN.{length}
use borrow.Author.Tests.{eqb-false, le-leb, leb-false, leb-true, ne_eqb}
use Rattle.std.specs.Prelude.{Result, Ok, Err}
use Rattle.piece.specs.declared.rotation.Rotation.{Rotation}
use Rattle.piece.specs.declared.parttype.PartType.{PartType}
use Rattle.piece.specs.declared.node.Datum.{Datum}
use Rattle.piece.specs.declared.insertion_blueprint.InsertionShape.{InsertionShape}
use Rattle.piece.specs.Insertion.{new_nodes}
use Rattle.piece.specs.Kinds.{is_free}
use Rattle.piece.specs.Offered.{offered_b}
use Rattle.lists.proofs.Scan.{clash}
use Rattle.marks.specs.declared.Mark.{Mark}
use Rattle.marks.specs.declared.Refusal.{Refusal}
use Rattle.marks.specs.declared.Refusal.TheVariants.{BufferTooShort, FreePiece, Gone, NotFree, NotOffered, NotSound, OtherLayout, PartOutside, SerialsSpent, TheTop, TooManyNodes}
use Rattle.marks.specs.declared.Refusal.TheVariants as refusal
use Rattle.layout.specs.declared.layout.Layout.{Layout}
use Rattle.layout.specs.Check.{limit, max_serial, sound_b, tree}
use Rattle.layout.specs.Asked.{free_piece_of, gone_b, only_free, part_b, sought_of}
use Rattle.layout.specs.Refusing.{or_else}
use Rattle.layout.specs.SoundLayout.{Sized, SoundLayout}
use Rattle.layout.specs.Insert.{book_no, insert_no, piece_at, piece_no}
use Rattle.layout.specs.Remove.{go_no, going_no, numbers_out, remove_no, room_no}
use Rattle.layout.proofs.Admitted.{is_free-kind}
use Rattle.layout.proofs.Exactly.{sound-says, sound-shown}
use Rattle.layout.proofs.Listed.{piece_is}
use Rattle.layout.proofs.Marks.{headed, names-sought, sought-names}
use Rattle.layout.proofs.RemoveEnds.{long-enough, may-go, may-not}
use Rattle.demands.specs.Life.{NamesPiece}
use Rattle.demands.specs.Orders.{AllAccepted, Apart, Each, Naming, OnlyEight, OnlyEightOrNine, Pairwise, Reordered, Step, booking, place_of, refusal_of, removal}
use Rattle.demands.specs.Orders as orders
use Rattle.demands.proofs.BookedThenRemoved.{new_two}
use Rattle.demands.proofs.Stepped.{Lets, Ready, apart-back, apart-lets, left_other, lets-after, new_of, numbers-same, ready-after, ready-before, room_b, stepped}
use Rattle.demands.proofs.Reordering.{each_at, each-before, each_both, each_map, each-reordered, pairs-at, pairs-map, pairs-reordered, total, total-at, total-reordered}
use Rattle.demands.proofs.EveryOrder.{Old, Waits, all_old, all-wait, older}

-- ---- what a step that is ready is refused with

-- by refusals 8 and 9, in this order
abbrev pub late_no : Layout → Step → Option Refusal
late_no l s = cond (room_b l s) (cond (leb (l.serial + new_of s) max_serial) none (some SerialsSpent)) (some TooManyNodes)

found : (l : Layout) → SoundLayout l → (m : Mark) → NamesPiece l m → sought_of l m ≡ Ok (piece_at l m.place)
found l sound m named =
    names-sought l sound m (piece_at l m.place) (record { layout = named.number; there = named.there; serial = named.serial })

pub ready-refusal : (l : Layout) → Sized l → SoundLayout l → (s : Step) → Ready l s → refusal_of l s ≡ late_no l s
unfolding insert_no free_piece_of book_no go_no
ready-refusal l sized sound (booking m p r s) h =
    rw (sound-shown l sized sound, h.asks.0, found l sound m h.names, ap is_free h.meets, h.asks.1) refl
ready-refusal l sized sound (removal m room) h = go (leb (l.serial + 1) max_serial) refl
  where
    d : Datum
    d = piece_at l m.place

    goes : (b : Bool) → leb (l.serial + 1) max_serial ≡ b → go_no l m.place d ≡ cond b none (some SerialsSpent)
    goes b e = rw (ne_eqb m.place 0 h.meets.1, h.meets.0, e) refl

    go : (b : Bool) → leb (l.serial + 1) max_serial ≡ b → remove_no l m room ≡ cond b none (some SerialsSpent)
    go true e = may-go l m room (sound-shown l sized sound) (found l sound m h.names) (goes true e) ∙ long-enough l m.place room h.asks
    go false e = may-not l m room (sound-shown l sized sound) (found l sound m h.names) (goes false e)

late-eight-nine : (a b : Bool) → OnlyEightOrNine (cond a (cond b none (some SerialsSpent)) (some TooManyNodes))
late-eight-nine true true = inl (inl refl)
late-eight-nine true false = inr refl
late-eight-nine false b = inl (inr refl)

late-eight : (a : Bool) → OnlyEight (cond a none (some TooManyNodes))
late-eight true = inl refl
late-eight false = inr refl

module _ (l : Layout) (sized : Sized l) (sound : SoundLayout l) (s : Step) (ready : Ready l s) where
  pub ready-eight-nine : OnlyEightOrNine (refusal_of l s)
  ready-eight-nine = rw (ready-refusal l sized sound s ready) (late-eight-nine (room_b l s) (leb (l.serial + new_of s) max_serial))

  module _ (enough : l.serial + new_of s ≤ max_serial) where
    pub ready-eight : OnlyEight (refusal_of l s)
    ready-eight = rw (ready-refusal l sized sound s ready, le-leb (l.serial + new_of s) max_serial enough) (late-eight (room_b l s))

    pub ready-none : room_b l s ≡ true → refusal_of l s ≡ none
    ready-none room = rw (ready-refusal l sized sound s ready, room, le-leb (l.serial + new_of s) max_serial enough) refl

-- ---- and the other way round: what is refused with nothing but 8 or 9 is ready

-- the refusals that are tested before these are others
abbrev late_b : Refusal → Bool
late_b refusal.TooManyNodes = true
late_b refusal.SerialsSpent = true
late_b refusal.NotSound = false
late_b refusal.OpeningOutside = false
late_b refusal.PartOutside = false
late_b refusal.OtherLayout = false
late_b refusal.Gone = false
late_b refusal.NotFree = false
late_b refusal.NotOffered = false
late_b refusal.TheTop = false
late_b refusal.FreePiece = false
late_b refusal.PastTheEnd = false
late_b refusal.BufferTooShort = false
late_b refusal.Malformed = false

late : (e : Refusal) → OnlyEightOrNine (some e) → late_b e ≡ true
late e (inl (inl h)) = absurd (clash (cc))
late e (inl (inr h)) = let z : e ≡ TooManyNodes = cc in rw z refl
late e (inr h) = let z : e ≡ SerialsSpent = cc in rw z refl

sought-early : (l : Layout) (m : Mark) (e : Refusal) → sought_of l m ≡ Err e → late_b e ≡ false
unfolding sought_of
sought-early l m e = go (eqb m.layout l.number) (gone_b l m)
  where
    go : (a b : Bool)
        → cond a (cond b (Err Gone) (Ok (piece_at l m.place))) (Err OtherLayout) ≡ Err e → late_b e ≡ false
    go true true h = let z : e ≡ Gone = cc in rw z refl
    go true false h = absurd (clash (cc))
    go false b h = let z : e ≡ OtherLayout = cc in rw z refl

free-early : (l : Layout) (m : Mark) (p : PartType) (e : Refusal) → free_piece_of l m p ≡ Err e → late_b e ≡ false
unfolding free_piece_of
free-early l m p e = go (sound_b l) (part_b p) (sought_of l m) refl
  where
    only : (d : Datum) (b : Bool) → cond b (Ok d) (Err NotFree) ≡ Err e → late_b e ≡ false
    only d true h = absurd (clash (cc))
    only d false h = let z : e ≡ NotFree = cc in rw z refl

    go : (a b : Bool) (q : Result Datum Refusal) → sought_of l m ≡ q
        → cond a (cond b (only_free q) (Err PartOutside)) (Err NotSound) ≡ Err e → late_b e ≡ false
    go true true (Ok d) f h = only d (is_free d.kind) h
    go true true (Err x) f h = let z : x ≡ e = cc in sought-early l m e (f ∙ ap Err z)
    go true false q f h = let z : e ≡ PartOutside = cc in rw z refl
    go false b q f h = let z : e ≡ NotSound = cc in rw z refl

module _ (l : Layout) (sized : Sized l) (m : Mark) where
  named_by : (d : Datum) → SoundLayout l → sought_of l m ≡ Ok d → NamesPiece l m × (piece_at l m.place ≡ d)
  named_by d sound h =
      let n = sought-names l sound m d h in
      let is : piece_at l m.place ≡ d = piece_is l.nodes (tree l) sound.holds m.place d n.there in
      (record { number = n.layout; there = rw is n.there; serial = ap (λ (e : Datum). e.serial) is ∙ n.serial }, is)

  booking-ready : (p : PartType) (r : Rotation) (s : InsertionShape) → OnlyEightOrNine (insert_no l m p r s) → Ready l (booking m p r s)
  unfolding insert_no book_no
  booking-ready p r s = go (free_piece_of l m p) refl
    where
      offered : (d : Datum) (b c e : Bool)
          → OnlyEightOrNine (cond b (cond c (cond e none (some SerialsSpent)) (some TooManyNodes)) (some NotOffered)) → b ≡ true
      offered d true c e h = refl
      offered d false c e h = absurd (clash (late NotOffered h))

      go : (q : Result Datum Refusal) → free_piece_of l m p ≡ q → OnlyEightOrNine (piece_no l p r s q) → Ready l (booking m p r s)
      go (Err e) f h = absurd (clash (sym (free-early l m p e f) ∙ late e h))
      go (Ok d) f h =
          let q = headed l m p d f in
          let n = named_by d (sound-says l sized q.sound) q.named in
          let o = offered d (offered_b d p l.settings r s) (leb (l.held - 1 + new_nodes s) limit) (leb (l.serial + new_nodes s) max_serial) h in
          record { names = n.0; meets = rw n.1 (is_free-kind d.kind q.free); asks = (q.part, rw n.1 o) }

  -- with 9 a removal has not been asked for its buffer yet
  removal-ready : (room : ℕ) → OnlyEightOrNine (remove_no l m room) → Ready l (removal m room) ⊎ (max_serial < l.serial + 1)
  unfolding remove_no go_no room_no
  removal-ready room = go (sound_b l) refl (sought_of l m) refl
    where
      x : ℕ
      x = m.place

      tests : (d : Datum) → SoundLayout l → sought_of l m ≡ Ok d
          → (a : Bool) → eqb x 0 ≡ a → (b : Bool) → is_free d.kind ≡ b → (c : Bool) → leb (l.serial + 1) max_serial ≡ c
          → (o : Bool) → leb (length (numbers_out l x)) room ≡ o
          → OnlyEightOrNine (or_else (cond a (some TheTop) (cond b (some FreePiece) (cond c none (some SerialsSpent)))) (cond o none (some BufferTooShort)))
          → Ready l (removal m room) ⊎ (max_serial < l.serial + 1)
      tests d sound f true e b g c i o j h = absurd (clash (late TheTop h))
      tests d sound f false e true g c i o j h = absurd (clash (late FreePiece h))
      tests d sound f false e false g false i o j h = inr (leb-false (l.serial + 1) max_serial i)
      tests d sound f false e false g true i false j h = absurd (clash (late BufferTooShort h))
      tests d sound f false e false g true i true j h =
          let n = named_by d sound f in
          inl (record { names = n.0; meets = (rw n.1 g, eqb-false x 0 e); asks = leb-true (length (numbers_out l x)) room j })

      go : (a : Bool) → sound_b l ≡ a → (q : Result Datum Refusal) → sought_of l m ≡ q → OnlyEightOrNine (cond a (going_no l x room q) (some NotSound))
          → Ready l (removal m room) ⊎ (max_serial < l.serial + 1)
      go true e (Ok d) f h =
          tests d (sound-says l sized e) f (eqb x 0) refl (is_free d.kind) refl (leb (l.serial + 1) max_serial) refl
          (leb (length (numbers_out l x)) room) refl h
      go true e (Err r) f h = absurd (clash (sym (sought-early l m r f) ∙ late r h))
      go false e q f h = absurd (clash (late NotSound h))

asked-ready : (l : Layout) → Sized l → (s : Step) → OnlyEightOrNine (refusal_of l s) → Ready l s ⊎ (max_serial < l.serial + 1)
asked-ready l sized (booking m p r s) h = inl (booking-ready l sized m p r s h)
asked-ready l sized (removal m room) h = removal-ready l sized m room h

-- ---- along an accepted run

-- every step has its serials
new-some : (s : Step) → 1 ≤ new_of s
new-some (booking m p r s) = omega (arith, new_two s)
new-some (removal m room) = omega arith

-- where it comes to
pub record Reached (l : Layout) (ss : List Step) (n : Layout) : Type 0 where
  pub sized : Sized n
  pub sound : SoundLayout l → SoundLayout n
  pub serial : n.serial ≡ l.serial + total new_of ss

pub reached : {l n : Layout} {ss : List Step} → Sized l → AllAccepted l ss n → Reached l ss n
reached sized orders.nothing = record { sized = sized; sound = λ h. h; serial = omega arith }
reached {l = l} {n = n} sized (orders.then {k = k} s ss a run) =
    let st = stepped l sized s k a in
    let rest = reached st.sized run in
    record { sized = rest.sized; sound = λ h. rest.sound st.leaves.after; serial = omega (arith, st.serial, rest.serial) }

-- a step that is ready stays so, and would bring the same part numbers out, where the steps that are made are not in its way
pub record Still (l n : Layout) (s : Step) : Type 0 where
  pub ready : Ready n s
  pub numbers : numbers_out n (place_of s) ≡ numbers_out l (place_of s)

pub still : {l n : Layout} {ss : List Step} → Sized l → AllAccepted l ss n → Each (Old l) ss → (s : Step) → Each (λ t. Lets l t s) ss → Ready l s
    → Still l n s
still sized orders.nothing old s lets ready = record { ready = ready; numbers = refl }
still {l = l} {n = n} sized (orders.then {k = k} t ts a run) old s lets ready =
    let st = stepped l sized t k a in
    let left = left_other t st s lets.0 ready in
    let rest : Still k n s =
    still st.sized run (older st ts old.1) s
    (each_both (Waits l t) (λ u. Lets l u s) (λ u. Lets k u s) (λ u h z. lets-after st u s h.left left z) ts (all-wait ts st run old.1) lets.1)
    (ready-after st s lets.0 ready)
    in
    record { ready = rest.ready; numbers = rest.numbers ∙ numbers-same st s left lets.0.inside }

-- the steps of an accepted list are ready from the start, where none holds the piece of an earlier one
pub all-ready : {l n : Layout} {ss : List Step} → Sized l → AllAccepted l ss n → Each (Old l) ss → Pairwise (Lets l) ss → Each (Ready l) ss
all-ready sized orders.nothing old lets = tt
all-ready {l = l} sized (orders.then {k = k} s ss a run) old lets =
    let st = stepped l sized s k a in
    let wait = all-wait ss st run old.1 in
    let later = pairs-map (Waits l s) (Lets l) (Lets k) (λ t u h g z. lets-after st t u h.left g.left z) ss wait lets.1 in
    let ready = all-ready st.sized run (older st ss old.1) later in (
      st.ready,
      each_both (λ t. Waits l s t × Lets l s t) (Ready k) (Ready l) (λ t h r. ready-before st t h.1.inside h.0.stands.names r) ss
          (each_both (Waits l s) (Lets l s) (λ t. Waits l s t × Lets l s t) (λ t h g. (h, g)) ss wait lets.0) ready,
    )

-- ---- the laws

-- the steps of a run are apart from s, which l refuses with nothing but 8 or 9: s is still so at the end of it
module _ {l k : Layout} {ss : List Step} (sized : Sized l) (named : Naming l ss) (s : Step) (apart : Each (Apart l s) ss) (run : AllAccepted l ss k) where
  still-apart : Ready l s → Still l k s
  still-apart ready =
      still sized run (all_old sized run named) s (each_map (Apart l s) (λ u. Lets l u s) (λ u z. apart-lets (apart-back z)) ss apart) ready

pub only-eight-or-nine : {l k : Layout} {ss : List Step} → Sized l → Naming l ss → (s : Step) → Each (Apart l s) ss → AllAccepted l ss k
    → OnlyEightOrNine (refusal_of l s) → OnlyEightOrNine (refusal_of k s) × (numbers_out k (place_of s) ≡ numbers_out l (place_of s))
only-eight-or-nine sized named s apart orders.nothing h = (h, refl)
only-eight-or-nine {l = l} {k = k} sized named s apart (orders.then {k = n} t ts a rest) h =
    let run = orders.then t ts a rest in
    let st = stepped l sized t n a in
    let end = reached sized run in
    ⊎_elim
    (λ ready.
    let z = still-apart sized named s apart run ready in
    (ready-eight-nine k end.sized (end.sound st.leaves.before) s z.ready, z.numbers))
    -- with no serial left, no step of the run was accepted
    (λ spent. absurd (omega (arith, st.serial, new-some t, st.leaves.after.serials.spent))) (asked-ready l sized s h)

-- a list with a step in it starts from a sound layout
start-sound : {l n : Layout} {ss : List Step} → Sized l → AllAccepted l ss n → 1 ≤ total new_of ss → SoundLayout l
start-sound sized orders.nothing h = absurd (omega arith)
start-sound {l = l} sized (orders.then {k = k} s ss a run) h = (stepped l sized s k a).leaves.before

-- one order is accepted, to n, and in another one the steps before s were, to k: s is ready then, and has its serials
pub record Next (n k : Layout) (s : Step) : Type 0 where
  pub end : SoundLayout n
  pub sized : Sized k
  pub sound : SoundLayout k
  pub ready : Ready k s
  pub enough : k.serial + new_of s ≤ max_serial

pub is-next : {l n k : Layout} {ss : List Step} → Sized l → Naming l ss → Pairwise (Apart l) ss → AllAccepted l ss n
    → (before : List Step) (s : Step) (after : List Step) → Reordered ss (before ++ (s ∷ after)) → AllAccepted l before k → Next n k s
is-next {l} {n} {k} {ss} sized named apart run before s after r part =
    let old = all_old sized run named in
    let lets = pairs-map (Old l) (Apart l) (Lets l) (λ t u h g z. apart-lets z) ss old apart in
    let ready = each_at (Ready l) s before after (each-reordered (Ready l) r (all-ready sized run old lets)) in
    let others = pairs-at (Apart l) s before after (pairs-reordered (Apart l) (λ t u. apart-back) r apart) in
    let way = each_map (λ t. Apart l t s) (λ t. Lets l t s) (λ t z. apart-lets z) before others in
    let here = reached sized part in
    let end = reached sized run in
    -- the serials of those before and of s are among those of the list
    let sum = total-at new_of s before after in
    let same = total-reordered new_of r in
    let sound = start-sound sized run (omega (arith, same, sum.1, new-some s)) in
    record {
      end = end.sound sound;
      sized = here.sized;
      sound = here.sound sound;
      ready = (still sized part (each-before (Old l) before (s ∷ after) (each-reordered (Old l) r old)) s way ready).ready;
      enough = omega (arith, (end.sound sound).serials.spent, end.serial, here.serial, same, sum.1);
    }

pub only-eight : {l n k : Layout} {ss : List Step} → Sized l → Naming l ss → Pairwise (Apart l) ss → AllAccepted l ss n
    → (before : List Step) (s : Step) (after : List Step) → Reordered ss (before ++ (s ∷ after)) → AllAccepted l before k → OnlyEight (refusal_of k s)
only-eight {k = k} sized named apart run before s after r part =
    let z = is-next sized named apart run before s after r part in ready-eight k z.sized z.sound s z.ready z.enough
