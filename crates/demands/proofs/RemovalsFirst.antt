-- Document 02, No. 10: where a list of steps that are apart is accepted in one order, it is accepted in every order in which no booking comes before a removal. Only
-- 8 could refuse a step there (NothingButEight), and it refuses none: when the removals are made, bookings alone are left, which make no fewer nodes (tree's
-- Grown), and they come to the tree of the accepted order, which is within the limit. Assumes nothing.
use mathlib.Core.Path.{◌≡◌, refl, sym, ap, ◌∙◌}
use mathlib.Core.List.{List, [], ◌∷◌, ◌++◌}
use mathlib.Core.Option.{none, some}
use Prim.Native.Nat.{ℕ, ◌+◌, ◌-◌}
use native.Mathlib.Omega.{arith}
use borrow.Author.Tests.{eq-eqb, le-leb}
use Rattle.piece.specs.Insertion.{new_nodes}
use Rattle.piece.specs.Offers.{turned}
use Rattle.lists.proofs.Scan.{clash}
use Rattle.tree.specs.Snapshot.{shape}
use Rattle.tree.specs.AtOnce.{at_once, deed_at, takes}
use Rattle.tree.proofs.Rows.{at_in}
use Rattle.tree.proofs.Grown.{grows, same_count}
use Rattle.tree.proofs.Laws.AtOnce.{any-list-order}
use Rattle.layout.specs.declared.layout.Layout.{Layout}
use Rattle.layout.specs.Check.{limit, tree}
use Rattle.layout.specs.SoundLayout.{Sized}
use Rattle.layout.specs.Insert.{piece_at}
use Rattle.layout.proofs.Admitted.{sound-counts}
use Rattle.demands.specs.Orders.{AllAccepted, Apart, Books, Each, Naming, Pairwise, RemovalsFirst, Reordered, Step, booking, refusal_of, removal}
use Rattle.demands.specs.Orders as orders
use Rattle.demands.proofs.Stepped.{Lets, Ready, apart-back, apart-lets, left_other, lets-after, ready-after, stepped}
use Rattle.demands.proofs.Reordering.{each-before, each-behind, each_both, each-joined, each_map, each-reordered, pairs-across, pairs-map, pairs-reordered}
use Rattle.demands.proofs.EveryOrder.{Old, Stands, Waits, all-differ, all_old, all-suited, all-wait, at-once, deed_of, older, same-deeds, task-is, tasks, then-others}
use Rattle.demands.proofs.NothingButEight.{all-ready, is-next, ready-none}

-- ---- some of the steps are made, and the rest is done at once

-- the rest is ready then, and comes to what all of it at once comes to
pub record Partly (l : Layout) (before rest : List Step) (k : Layout) : Type 0 where
  pub ready : Each (Ready k) rest
  pub same : shape (at_once (tasks k.settings.blade rest) (tree k)) ≡ shape (at_once (tasks l.settings.blade (before ++ rest)) (tree l))

partly : {l k : Layout} {before : List Step} → Sized l → AllAccepted l before k → Each (Old l) before → (rest : List Step) → Each (Ready l) rest
    → Each (λ t. Each (Lets l t) rest) before → Partly l before rest k
partly sized orders.nothing old rest ready lets = record { ready = ready; same = refl }
partly {l = l} {k = k} sized (orders.then {k = n} t ts a run) old rest ready lets =
    let st = stepped l sized t n a in
    let made = all-wait ts st run old.1 in
    let wait =
    each_both (Ready l) (Lets l t) (Waits l t)
    (λ u r z. record { stands = record { names = r.names; meets = r.meets }; left = left_other t st u z r }) rest ready lets.0
    in
    let later =
    each_both (Waits l t) (λ v. Each (Lets l v) rest) (λ v. Each (Lets n v) rest)
    (λ v h z. each_both (Waits l t) (Lets l v) (Lets n v) (λ u g y. lets-after st v u h.left g.left y) rest wait z) ts made lets.1
    in
    let next : Partly n ts rest k =
    partly st.sized run (older st ts old.1) rest (each_both (Ready l) (Lets l t) (Ready n) (λ u r z. ready-after st u z r) rest ready lets.0) later
    in
    record { ready = next.ready; same = next.same ∙ then-others st (ts ++ rest) (each-joined (Waits l t) ts rest made wait) }

-- ---- bookings alone

-- behind a booking there is no removal
books-behind : (m : Step) → Books m → (before after : List Step) → RemovalsFirst (before ++ (m ∷ after)) → Each Books after
books-behind (booking m p r s) b [] after h = h
books-behind (removal m room) b [] after h = absurd b
books-behind m b (booking m' p r s ∷ before) after h = (each-behind Books before (m ∷ after) h).1
books-behind m b (removal m' room ∷ before) after h = books-behind m b before after h

takes_none : (blade : ℕ) (ss : List Step) → Each Books ss → (y n s : ℕ) → deed_at y (tasks blade ss) ≡ some (takes n s) → ⊥
takes_none blade ss all y n s e =
    task-is (λ i g. (m u : ℕ) → g ≡ takes m u → ⊥) blade ss
    (each_map Books (λ t. (m u : ℕ) → deed_of blade t ≡ takes m u → ⊥) (λ t b. is-booking t b) ss all) y (takes n s) e n s refl
  where
    is-booking : (t : Step) → Books t → (m u : ℕ) → deed_of blade t ≡ takes m u → ⊥
    is-booking (booking k p r i) b m u z = clash (cc)
    is-booking (removal k room) b m u z = b

-- ---- the law

module _ {l n k : Layout} {ss : List Step} (sized : Sized l) (named : Naming l ss) (apart : Pairwise (Apart l) ss) (run : AllAccepted l ss n)
    (before after : List Step) where
  -- the accepted order comes to what the rest comes to at once
  same_end : (s : Step) → Reordered ss (before ++ (s ∷ after)) → AllAccepted l before k
      → Each (Ready k) (s ∷ after) × (shape (tree n) ≡ shape (at_once (tasks k.settings.blade (s ∷ after)) (tree k)))
  same_end s r part =
      let rest = s ∷ after in
      let blade = l.settings.blade in
      let old = all_old sized run named in
      let lets = pairs-map (Old l) (Apart l) (Lets l) (λ t u h g z. apart-lets z) ss old apart in
      let ready = each-behind (Ready l) before rest (each-reordered (Ready l) r (all-ready sized run old lets)) in
      let across = pairs-across (Apart l) before rest (pairs-reordered (Apart l) (λ t u. apart-back) r apart) in
      let way =
      each_map (λ t. Each (Apart l t) rest) (λ t. Each (Lets l t) rest) (λ t z. each_map (Apart l t) (Lets l t) (λ u y. apart-lets y) rest z) before across
      in
      let p : Partly l before rest k = partly sized part (each-before (Old l) before rest (each-reordered (Old l) r old)) rest ready way in
      let list = any-list-order (tasks blade ss) (tasks blade (before ++ rest)) (same-deeds blade r (all-differ sized run old)) (tree l) in
      (p.ready, at-once sized run old ∙ ap shape list ∙ sym p.same)

  pub removals-first : (s : Step) → Reordered ss (before ++ (s ∷ after)) → AllAccepted l before k → RemovalsFirst (before ++ (s ∷ after))
      → refusal_of k s ≡ none
  removals-first (removal m room) r part order =
      let z = is-next sized named apart run before (removal m room) after r part in ready-none k z.sized z.sound (removal m room) z.ready z.enough refl
  removals-first (booking m p t i) r part order =
      let s = booking m p t i in
      let z = is-next sized named apart run before s after r part in
      let e = same_end s r part in
      let blade = k.settings.blade in
      let all : Each Books (s ∷ after) = (tt, books-behind s tt before after order) in
      let suited =
      all-suited k z.sound blade (s ∷ after)
      (each_map (Ready k) (Stands k) (λ u h. record { names = h.names; meets = h.meets }) (s ∷ after) e.0)
      in
      let there = z.ready.names.there in
      let more =
      grows k.settings (tasks blade (s ∷ after)) (takes_none blade (s ∷ after) all) m.place
      (record { shape = i; size = turned t p.size; number = p.number; blade = blade; place = λ j. 0; serial = 0 })
      (rw (eq-eqb m.place m.place refl) refl) (tree k) z.sound.sound suited (at_in m.place (piece_at k m.place) (tree k) there)
      in
      ready-none k z.sized z.sound s z.ready z.enough
      (le-leb (k.held - 1 + new_nodes i) limit
      (omega (
        arith,
        more,
        same_count (tree n) (at_once (tasks blade (s ∷ after)) (tree k)) e.1,
        z.sound.held,
        z.end.held,
        z.end.sound.room,
        (sound-counts k z.sound).0,
      )))
