-- Document 02, No. 10: a list of bookings and removals, each naming a piece of the layout that the list starts from, gives the same tree in every order in which
-- every call is accepted. Each accepted order comes to the tree in which all is done at once (tree's AtOnce), which knows no order. Assumes nothing.
use mathlib.Core.Path.{◌≡◌, refl, sym, ap, ◌∙◌, subst}
use mathlib.Core.Bool.{Bool, true, false, cond}
use mathlib.Core.List.{List, [], ◌∷◌, ◌++◌}
use mathlib.Core.Logic.{◌⊎◌, inl, inr}
use mathlib.Core.Option.{none, some}
use Prim.Native.Nat.{ℕ, ◌≤◌}
use native.Mathlib.Omega.{arith}
use lib.Dec.{eqb}
use borrow.Author.Tests.{eqb-true, eq-eqb, ne_eqb}
use Rattle.piece.specs.declared.node.Datum.{Datum}
use Rattle.piece.specs.Row.{nil, grow}
use Rattle.piece.specs.Offers.{turned}
use Rattle.lists.proofs.Scan.{clash}
use Rattle.tree.specs.Tree.{Tree, In, At}
use Rattle.tree.specs.Snapshot.{shape}
use Rattle.tree.specs.Removal.{cleared, left}
use Rattle.tree.specs.Steps.{less}
use Rattle.tree.proofs.Rows.{same?, at_in, in-eq}
use Rattle.tree.proofs.Bookings.{at-unique}
use Rattle.tree.proofs.BookPieces.{less-gone}
use Rattle.tree.proofs.Kept.{not_top, only}
use Rattle.tree.proofs.Places.{gone}
use Rattle.tree.proofs.RemoveKept.{in_left}
use Rattle.tree.proofs.Shapes.{same-of-shape}
use Rattle.tree.specs.AtOnce.{AlikeDeed, Deed, Spares, Suited, Suits, Task, at_once, books, deed_at, takes}
use Rattle.tree.proofs.Laws.AtOnce.{any-list-order, one-then-the-others}
use Rattle.layout.specs.declared.layout.Layout.{Layout}
use Rattle.layout.specs.Check.{limit, tree}
use Rattle.layout.specs.SoundLayout.{Sized, SoundLayout}
use Rattle.layout.specs.Insert.{piece_at}
use Rattle.questions.specs.Written.{snapshot_bytes}
use Rattle.demands.specs.Life.{NamesPiece}
use Rattle.demands.specs.Calls.{SameTree}
use Rattle.demands.specs.Orders.{AllAccepted, Each, Naming, Pairwise, Reordered, Step, booking, mark_of, place_of, removal}
use Rattle.demands.specs.Orders as orders
use Rattle.demands.proofs.Reordering.{each_both, each_map, each-reordered}
use Rattle.demands.proofs.Stepped.{Meets, Stepped, deed_on, left_by, named-before, old-left, stepped}

-- ---- a list of steps as tasks of a tree; the marks of what is new don't count there

abbrev pub deed_of : ℕ → Step → Deed
deed_of blade (booking m p r s) =
    books (record { shape = s; size = turned r p.size; number = p.number; blade = blade; place = λ i. 0; serial = 0 })
deed_of blade (removal m room) = takes 0 0

abbrev pub tasks : ℕ → List Step → List Task
tasks blade [] = []
tasks blade (s ∷ ss) = record { place = place_of s; deed = deed_of blade s } ∷ tasks blade ss

deed-alike : (l : Layout) (s : Step) → AlikeDeed (deed_on l s) (deed_of l.settings.blade s)
deed-alike l (booking m p r s) = record { shape = refl; size = refl; number = refl; blade = refl }
deed-alike l (removal m room) = tt

deed-suits : (blade : ℕ) (s : Step) (d : Datum) → Meets s d → Suits (deed_of blade s) (place_of s) d
deed-suits blade (booking m p r s) d h = h
deed-suits blade (removal m room) d h = h

-- what is so of each task is so of what the list has for a place
pub task-is : (Q : ℕ → Deed → Type 0) (blade : ℕ) (ss : List Step) → Each (λ s. Q (place_of s) (deed_of blade s)) ss → (y : ℕ) (g : Deed)
    → deed_at y (tasks blade ss) ≡ some g → Q y g
task-is Q blade [] h y g e = absurd (clash (cc))
task-is Q blade (s ∷ ss) h y g e = go (eqb (place_of s) y) refl e (task-is Q blade ss h.1 y g)
  where
    go : (b : Bool) → eqb (place_of s) y ≡ b → cond b (some (deed_of blade s)) (deed_at y (tasks blade ss)) ≡ some g
        → (deed_at y (tasks blade ss) ≡ some g → Q y g) → Q y g
    go true b e ih =
        let at : place_of s ≡ y = eqb-true (place_of s) y b in
        let is : deed_of blade s ≡ g = cc in
        subst (λ (z : Deed). Q y z) is (subst (λ (z : ℕ). Q z (deed_of blade s)) at h.0)
    go false b e ih = ih e

-- nothing is done at once
nothing-done : (t : Tree) → at_once [] t ≡ t
nothing-done nil = refl
nothing-done (grow p d k r) = rw (nothing-done k, nothing-done r) refl

-- ---- the same list in another order has the same for each place

-- at different places
abbrev Different : Step → Step → Type 0
Different s t = place_of s ≡ place_of t → ⊥

module _ (blade : ℕ) where
  nothing_for : (y : ℕ) (ss : List Step) → Each (λ s. y ≡ place_of s → ⊥) ss → deed_at y (tasks blade ss) ≡ none
  nothing_for y [] h = refl
  nothing_for y (s ∷ ss) h = rw (ne_eqb (place_of s) y (λ e. h.0 (sym e))) (nothing_for y ss h.1)

  found_among : (y : ℕ) (s : Step) → place_of s ≡ y → (before after : List Step) → deed_at y (tasks blade (before ++ after)) ≡ none
      → deed_at y (tasks blade (before ++ (s ∷ after))) ≡ some (deed_of blade s)
  found_among y s e [] after h = rw (eq-eqb (place_of s) y e) refl
  found_among y s e (b ∷ before) after h = go (eqb (place_of b) y) h (found_among y s e before after)
    where
      go : (c : Bool) → cond c (some (deed_of blade b)) (deed_at y (tasks blade (before ++ after))) ≡ none
          → (deed_at y (tasks blade (before ++ after)) ≡ none → deed_at y (tasks blade (before ++ (s ∷ after))) ≡ some (deed_of blade s))
          → cond c (some (deed_of blade b)) (deed_at y (tasks blade (before ++ (s ∷ after)))) ≡ some (deed_of blade s)
      go true h ih = absurd (clash (cc))
      go false h ih = ih h

  passed_over : (y : ℕ) (s : Step) → (place_of s ≡ y → ⊥) → (before after : List Step)
      → deed_at y (tasks blade (before ++ (s ∷ after))) ≡ deed_at y (tasks blade (before ++ after))
  passed_over y s n [] after = rw (ne_eqb (place_of s) y n) refl
  passed_over y s n (b ∷ before) after = rw (passed_over y s n before after) refl

  pub same-deeds : {ss ts : List Step} → Reordered ss ts → Pairwise Different ss → (y : ℕ) → deed_at y (tasks blade ss) ≡ deed_at y (tasks blade ts)
  same-deeds orders.empty p y = refl
  same-deeds (orders.first {ss} s before after r) p y = go (same? (place_of s) y) (same-deeds r p.1 y)
    where
      go : (place_of s ≡ y) ⊎ (place_of s ≡ y → ⊥) → deed_at y (tasks blade ss) ≡ deed_at y (tasks blade (before ++ after))
          → deed_at y (tasks blade (s ∷ ss)) ≡ deed_at y (tasks blade (before ++ (s ∷ after)))
      go (inl e) ih =
          let h : deed_at y (tasks blade ss) ≡ none = subst (λ (z : ℕ). deed_at z (tasks blade ss) ≡ none) e (nothing_for (place_of s) ss p.0) in
          rw (eq-eqb (place_of s) y e) (sym (found_among y s e before after (sym ih ∙ h)))
      go (inr n) ih = rw (ne_eqb (place_of s) y n) (ih ∙ sym (passed_over y s n before after))

-- ---- an accepted run

-- the mark was issued by then
abbrev pub Old : Layout → Step → Type 0
Old l s = (mark_of s).serial ≤ l.serial

-- it names a piece that the step can take
pub record Stands (l : Layout) (s : Step) : Type 0 where
  pub names : NamesPiece l (mark_of s)
  pub meets : Meets s (piece_at l (place_of s))

-- the piece of t is among what s leaves
pub record Waits (l : Layout) (s t : Step) : Type 0 where
  pub stands : Stands l t
  pub left : At (place_of t) (piece_at l (place_of t)) (left_by l s)

pub all_old : {l n : Layout} {ss : List Step} → Sized l → AllAccepted l ss n → Naming l ss → Each (Old l) ss
all_old sized orders.nothing named = tt
all_old {l = l} sized (orders.then {k = k} s ss a run) named =
    let before = (stepped l sized s k a).leaves.before in
    each_map (λ t. NamesPiece l (mark_of t)) (Old l)
    (λ t h. omega (arith, before.serials.most (place_of t) (piece_at l (place_of t)) h.there, h.serial)) (s ∷ ss) named

pub older : {l n : Layout} {s : Step} → Stepped l s n → (ss : List Step) → Each (Old l) ss → Each (Old n) ss
older {l} {n} st ss old = each_map (Old l) (Old n) (λ t h. omega (arith, st.serial)) ss old

-- a step that stands after another, and whose mark was issued before that, waited for it
pub waited : {l n : Layout} {s : Step} → Stepped l s n → (t : Step) → Old l t → Stands n t → Waits l s t
waited {l} {s = s} st t old h =
    let b = named-before st (mark_of t) h.names old in
    record {
      stands = record { names = b.0; meets = subst (λ (d : Datum). Meets t d) (sym b.1) h.meets };
      left = subst (λ (d : Datum). At (place_of t) d (left_by l s)) (sym b.1) (old-left st (mark_of t) h.names old);
    }

-- steps whose marks were issued by now, and that are accepted one after the other, stand now
pub all-stand : {l n : Layout} {ss : List Step} → Sized l → AllAccepted l ss n → Each (Old l) ss → Each (Stands l) ss
all-stand sized orders.nothing old = tt
all-stand {l = l} sized (orders.then {k = k} s ss a run) old =
    let st = stepped l sized s k a in (
      record { names = st.ready.names; meets = st.ready.meets },
      each_both (Old l) (Stands k) (Stands l) (λ t o h. (waited st t o h).stands) ss old.1 (all-stand st.sized run (older st ss old.1)),
    )

-- and those that come after the first wait for it
pub all-wait : {l k n : Layout} {s : Step} (ss : List Step) → Stepped l s k → AllAccepted k ss n → Each (Old l) ss → Each (Waits l s) ss
all-wait {l} {k} {s = s} ss st run old =
    each_both (Old l) (Stands k) (Waits l s) (waited st) ss old (all-stand st.sized run (older st ss old))

-- what a step leaves are other pieces
pub left-differs : {l n : Layout} (s : Step) → Stepped l s n → (y : ℕ) (e : Datum) → At y e (left_by l s) → place_of s ≡ y → ⊥
left-differs {l} (booking m p r i) st y e h z =
    less-gone limit l.settings (tree l) st.leaves.before.sound m.place (piece_at l m.place) st.ready.names.there st.ready.meets
    (in-eq (less m.place (tree l)) (sym z) (at_in y e (less m.place (tree l)) h))
left-differs {l} (removal m room) st y e h z =
    gone m.place left (λ j d r. in_left j r) (tree l) st.leaves.before.sound.distinct
    (in-eq (cleared m.place (tree l)) (sym z) (at_in y e (cleared m.place (tree l)) h))

pub all-differ : {l n : Layout} {ss : List Step} → Sized l → AllAccepted l ss n → Each (Old l) ss → Pairwise Different ss
all-differ sized orders.nothing old = tt
all-differ {l = l} sized (orders.then {k = k} s ss a run) old =
    let st = stepped l sized s k a in (
      each_map (Waits l s) (Different s) (λ t h. left-differs s st (place_of t) (piece_at l (place_of t)) h.left) ss (all-wait ss st run old.1),
      all-differ st.sized run (older st ss old.1),
    )

-- ---- it comes to the tree in which all is done at once

step-below : {l n : Layout} (s : Step) → Stepped l s n → place_of s ≡ 0 → ⊥
step-below {l} (booking m p r i) st =
    let w = st.leaves.before.sound in
    not_top l.settings m.place (piece_at l m.place) (tree l) w.topped
    (only m.place (piece_at l m.place) (tree l) w.distinct st.ready.names.there) st.ready.meets
step-below (removal m room) st = st.ready.meets.1

-- what steps that stand have to do suits the pieces there
pub all-suited : (l : Layout) → SoundLayout l → (blade : ℕ) (ss : List Step) → Each (Stands l) ss → Suited (tasks blade ss) (tree l)
all-suited l sound blade ss stand y g e z =
    task-is (λ y g. (e : Datum) → At y e (tree l) → Suits g y e) blade ss
    (each_map (Stands l) (λ t. (e : Datum) → At (place_of t) e (tree l) → Suits (deed_of blade t) (place_of t) e)
    (λ t h e there.
    let is = at-unique (place_of t) (piece_at l (place_of t)) e (tree l) sound.sound.distinct h.names.there there in
    subst (λ (d : Datum). Suits (deed_of blade t) (place_of t) d) (sym is) (deed-suits blade t (piece_at l (place_of t)) h.meets)) ss stand) y g z e

-- one step and then the others at once
module _ {l k : Layout} {s : Step} (st : Stepped l s k) (ss : List Step) (wait : Each (Waits l s) ss) where
  abbrev blade : ℕ
  blade = l.settings.blade

  abbrev others : List Task
  others = tasks blade ss

  spared : (y : ℕ) (g : Deed) → deed_at y others ≡ some g → Spares y (deed_on l s)
  spared =
      task-is (λ y g. Spares y (deed_on l s)) blade ss
      (each_map (Waits l s) (λ t. Spares (place_of t) (deed_on l s)) (λ t h. st.spares (place_of t) (piece_at l (place_of t)) h.left) ss wait)

  stay : (y : ℕ) (g : Deed) → deed_at y others ≡ some g → In y (tree l) → In y (left_by l s)
  stay y g e h =
      task-is (λ y g. In y (left_by l s)) blade ss
      (each_map (Waits l s) (λ t. In (place_of t) (left_by l s)) (λ t h. at_in (place_of t) (piece_at l (place_of t)) (left_by l s) h.left) ss wait) y g e

  pub then-others : shape (at_once (tasks k.settings.blade ss) (tree k)) ≡ shape (at_once (tasks blade (s ∷ ss)) (tree l))
  then-others =
      rw (st.settings, st.tree)
      (one-then-the-others (tree l) st.leaves.before.sound (place_of s) (deed_on l s) (deed_of blade s) others (deed-alike l s) (step-below s st) spared stay
      (all-suited l st.leaves.before blade ss (each_map (Waits l s) (Stands l) (λ t h. h.stands) ss wait)))

pub at-once : {l n : Layout} {ss : List Step} → Sized l → AllAccepted l ss n → Each (Old l) ss
    → shape (tree n) ≡ shape (at_once (tasks l.settings.blade ss) (tree l))
at-once {l = l} sized orders.nothing old = ap shape (sym (nothing-done (tree l)))
at-once {l = l} sized (orders.then {k = k} s ss a run) old =
    let st = stepped l sized s k a in
    at-once st.sized run (older st ss old.1) ∙ then-others st ss (all-wait ss st run old.1)

-- ---- in every order

pub same-tree : (l : Layout) → Sized l → (ss ts : List Step) → Reordered ss ts → Naming l ss → (n k : Layout) → AllAccepted l ss n → AllAccepted l ts k
    → SameTree n k
unfolding snapshot_bytes
same-tree l sized ss ts r named n k run other =
    let old = all_old sized run named in
    let blade = l.settings.blade in
    let same = any-list-order (tasks blade ss) (tasks blade ts) (same-deeds blade r (all-differ sized run old)) (tree l) in
    (same-of-shape (tree n) (tree k) (at-once sized run old ∙ ap shape same ∙ sym (at-once sized other (each-reordered (Old l) r old)))).bytes
