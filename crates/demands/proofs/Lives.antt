-- Demand 1, the life of one layout: every state is sound and has the same number, the last serial issued never falls, and no serial is issued twice. Each
-- call's step is looked at once (`Step`; a tidying is one removal after the other), and what holds of all of them goes along the states (`Run`). It rests on
-- what a call has done (Outcomes) and on what an accepted one leaves (Leaves). Assumes nothing.
use mathlib.Core.Path.{◌≡◌, refl, sym, ap, ◌∙◌}
use mathlib.Core.List.{List, [], ◌∷◌}
use mathlib.Core.Logic.{◌⊎◌, inl, inr, ⊎_elim}
use Prim.Native.Nat.{ℕ, ◌≤◌, ◌<◌}
use native.Mathlib.Omega.{arith}
use lib.ListN.{get_or-eq_default}
use Rattle.std.specs.Prelude.{Ok}
use Rattle.piece.specs.declared.rotation.Rotation.{Rotation}
use Rattle.piece.specs.declared.parttype.PartType.{PartType}
use Rattle.piece.specs.declared.node.Datum.{Datum}
use Rattle.piece.specs.declared.insertion_blueprint.InsertionShape.{InsertionShape}
use Rattle.tree.specs.Tree.{Tree, At}
use Rattle.piece.specs.declared.settings.Opening.{Opening}
use Rattle.tree.specs.Family.{parent_of}
use Rattle.tree.proofs.Bookings.{at-unique}
use Rattle.tree.proofs.Parents.{SameParent}
use Rattle.tree.proofs.Laws.TidyTree.{untidy-removable}
use Rattle.table.specs.declared.Node.{Node}
use Rattle.table.specs.Table.{zero_datum, zero_node}
use Rattle.marks.specs.declared.Mark.{Mark}
use Rattle.layout.specs.declared.layout.Layout.{Layout}
use Rattle.layout.specs.declared.insert.Inserted.{Inserted}
use Rattle.layout.specs.declared.remove.Removed.{Removed}
use Rattle.layout.specs.declared.tidy.Tidied.{Tidied}
use Rattle.layout.specs.Check.{limit, tree}
use Rattle.layout.specs.SoundLayout.{SoundLayout, Sized}
use Rattle.layout.specs.Next.{Next}
use Rattle.layout.specs.Open.{open_of}
use Rattle.layout.specs.Insert.{piece_at, InsertSays}
use Rattle.layout.specs.Inner.{Takeable}
use Rattle.layout.specs.Remove.{RemoveDone, RemoveSays}
use Rattle.layout.specs.Tidy.{Tidies, takes, tidy, TidySays}
use Rattle.layout.specs.Restore.{greater, with_serial, restore_of}
use Rattle.layout.proofs.Listed.{piece_is}
use Rattle.layout.proofs.Opened.{fresh-sized, fresh-sound}
use Rattle.layout.proofs.Restored.{greater-left, restored-sound}
use Rattle.demands.specs.Life.{OneOf, Life, opened, inserted, removed, tidied, restored, Later}
use Rattle.demands.proofs.Outcomes.{opened-so, inserted-so, removed-so, tidied-so, restored-so}
use Rattle.demands.proofs.Leaves.{Leaves, insert-leaves, remove-leaves}

-- ---- a piece in two layouts

-- the piece e at i of the layout n stands in k as it is, under the same parent piece
record Kept (k n : Layout) (i : ℕ) (e : Datum) : Type 0 where
  there : At i e (tree k)
  parent : parent_of limit i (tree n) ≡ parent_of limit i (tree k)
  parent_piece : piece_at n (parent_of limit i (tree n)) ≡ piece_at k (parent_of limit i (tree k))

-- a layout that is sound, and whose arrays are as long as their type says
record Right (l : Layout) : Type 0 where
  sound : SoundLayout l
  sized : Sized l

-- the table shows the piece at a place, and nothing at the limit, which is no place
shown : (l : Layout) → Right l → (i : ℕ) (d : Datum) → At i d (tree l) → piece_at l i ≡ d
shown l h i d y = piece_is l.nodes (tree l) h.sound.holds i d y

none-shown : (l : Layout) → Right l → (q : ℕ) → q ≡ limit → piece_at l q ≡ zero_datum
none-shown l h q e =
    ap (λ (n : Node). n.datum) (get_or-eq_default l.nodes zero_node (let z = h.sized.nodes in omega arith))

kept-so : (k n : Layout) → Right k → Right n → (i : ℕ) (e : Datum) → At i e (tree k) → SameParent limit i (tree k) (tree n) → Kept k n i e
kept-so k n hk hn i e y p = record { there = y; parent = p.same; parent_piece = rw p.same (go p.there) }
  where
    q : ℕ
    q = parent_of limit i (tree k)

    go : (q ≡ limit) ⊎ ((f : Datum) × At q f (tree k) × At q f (tree n)) → piece_at n q ≡ piece_at k q
    go (inl z) = none-shown n hn q z ∙ sym (none-shown k hk q z)
    go (inr o) = shown n hn q o.0 o.2 ∙ sym (shown k hk q o.0 o.1)

-- so it stood in the layout before that one too
kept-before : {l m n : Layout} {i : ℕ} {e : Datum} → Kept l m i e → Kept m n i e → Kept l n i e
kept-before a b = record { there = a.there; parent = b.parent ∙ a.parent; parent_piece = b.parent_piece ∙ a.parent_piece }

-- ---- one layout comes of another

-- n comes of l: it is sound, the last serial does not fall, and each of its pieces stood in l as it is, or is new
record Onward (l n : Layout) : Type 0 where
  right : Right n
  number : n.number ≡ l.number
  rises : l.serial ≤ n.serial
  pieces : (i : ℕ) (e : Datum) → At i e (tree n) → Kept l n i e ⊎ (l.serial < e.serial)

-- refused, the layout is as it came
onward-same : (l n : Layout) → Right l → n ≡ l → Onward l n
onward-same l n h e =
    rw e (record { right = h; number = refl; rises = omega arith; pieces = λ i f y. inl (record { there = y; parent = refl; parent_piece = refl }) })

-- accepted, each piece was left or is new
onward-leaves : (l : Layout) → Right l → {n : Layout} {w : Tree} → Leaves l n w → Sized n → l.serial ≤ n.serial → Onward l n
onward-leaves l h {n} c sized rises =
    let right : Right n = record { sound = c.after; sized = sized } in
    record {
      right = right;
      number = c.number;
      rises = rises;
      pieces = λ i e y. ⊎_elim (λ z. inl (kept-so l n h right i e (c.was i e z) (c.parent i e z))) inr (c.pieces i e y);
    }

-- one call after the other
onward-twice : (l m n : Layout) → Onward l m → Onward m n → Onward l n
onward-twice l m n a b =
    record {
      right = b.right;
      number = b.number ∙ a.number;
      rises = omega (arith, a.rises, b.rises);
      pieces = λ i e y.
          ⊎_elim (λ z. ⊎_elim (λ x. inl (kept-before x z)) inr (a.pieces i e z.there)) (λ z. inr (omega (arith, a.rises))) (b.pieces i e y);
    }

onward-next : {l n : Layout} {v w : Tree} {ys : List ℕ} {serial : ℕ} → Right l → Leaves l n v → Next l w ys serial n → l.serial ≤ serial → Onward l n
onward-next {l} h c n rises = onward-leaves l h c n.sized (omega (arith, n.serial))

-- a tidying is one removal after the other
onward-remove : (l : Layout) (x : ℕ) (a : Removed) → Takeable l x → RemoveDone l x a → Onward l a.layout
onward-remove l x a can done = onward-next (record { sound = can.sound; sized = can.sized }) (remove-leaves l x can a done) done.next (omega arith)

onward-tidies : {l n : Layout} {k : ℕ} → Right l → Tidies l k n → Onward l n
onward-tidies {l} h (tidy t) = onward-same l l h refl
onward-tidies {l} {n} h (takes x a lowest done rest) =
    let can : Takeable l x =
    record {
      sized = h.sized;
      sound = h.sound;
      removable = untidy-removable x (tree l) lowest.untidy;
      spent = omega (arith, done.next.sound.serials.spent, done.next.serial);
    }
    in
    let first = onward-remove l x a can done in onward-twice l a.layout n first (onward-tidies first.right rest)

-- ---- the step of a call

-- n comes after the states ls, of which l is the newest: it is sound, the last serial does not fall, and each of its pieces stood in an
-- earlier state as it is, or is new
record Step (l : Layout) (ls : List Layout) (n : Layout) : Type 0 where
  right : Right n
  number : n.number ≡ l.number
  rises : l.serial ≤ n.serial
  pieces : (i : ℕ) (e : Datum) → At i e (tree n) → ((k : Layout) × OneOf k ls × Kept k n i e) ⊎ (l.serial < e.serial)

module _ (l : Layout) (ls : List Layout) (h : Right l) (among : OneOf l ls) where
  -- it comes of the newest
  onward-step : (n : Layout) → Onward l n → Step l ls n
  onward-step n c =
      record {
        right = c.right;
        number = c.number;
        rises = c.rises;
        pieces = λ i e y. ⊎_elim (λ z. inl (l, among, z)) inr (c.pieces i e y);
      }

  -- an earlier state is put back: its pieces are all there, and no other
  restore-step : (s : Layout) → Right s → OneOf s ls → s.number ≡ l.number → Step l ls (with_serial s (greater l.serial s.serial))
  restore-step s g earlier number =
      record {
        right = record {
          sound = restored-sound l s h.sound g.sound;
          sized = record { nodes = g.sized.nodes; free = g.sized.free; removable = g.sized.removable };
        };
        number = number;
        rises = greater-left l.serial s.serial;
        pieces = λ i e y. inl (s, earlier, record { there = y; parent = refl; parent_piece = refl });
      }

-- ---- along the states

-- the first state, and the steps after it
data Run : List Layout → Type 0 where
  start : {n : Layout} → Right n → Run (n ∷ [])
  next : {n l : Layout} {ls : List Layout} → Run (l ∷ ls) → Step l (l ∷ ls) n → Run (n ∷ l ∷ ls)

run-right : {ls : List Layout} → Run ls → (l : Layout) → OneOf l ls → Right l
run-right (start h) l (inl e) = rw e h
run-right (start h) l (inr o) = absurd o
run-right (next run step) l (inl e) = rw e step.right
run-right (next run step) l (inr o) = run-right run l o

run-number : {ls : List Layout} → Run ls → (k l : Layout) → OneOf k ls → OneOf l ls → k.number ≡ l.number
run-number (start h) k l (inl e) (inl f) = rw (e, f) refl
run-number (start h) k l (inl e) (inr o) = absurd o
run-number (start h) k l (inr o) g = absurd o
run-number (next run step) k l (inl e) (inl f) = rw (e, f) refl
run-number (next {n} {l = m} run step) k l (inl e) (inr o) = rw e (step.number ∙ run-number run m l (inl refl) o)
run-number (next {n} {l = m} run step) k l (inr o) (inl f) = rw f (run-number run k m o (inl refl) ∙ sym step.number)
run-number (next run step) k l (inr o) (inr g) = run-number run k l o g

-- the last serial that the newest state has issued
abbrev last : List Layout → ℕ
last [] = 0
last (l ∷ ls) = l.serial

run-most : {ls : List Layout} → Run ls → (l : Layout) → OneOf l ls → l.serial ≤ last ls
run-most (start h) l (inl e) = rw e (omega arith)
run-most (start h) l (inr o) = absurd o
run-most (next run step) l (inl e) = rw e (omega arith)
run-most (next run step) l (inr o) = let z = run-most run l o in let y = step.rises in omega arith

run-rises : {ls : List Layout} → Run ls → (k l : Layout) → Later k l ls → k.serial ≤ l.serial
run-rises (start h) k l (inl y) = rw y.0 (run-most (start h) k y.1)
run-rises (start h) k l (inr o) = absurd o
run-rises (next run step) k l (inl y) = rw y.0 (run-most (next run step) k y.1)
run-rises (next run step) k l (inr o) = run-rises run k l o

-- a serial of the run is at most the last one
run-issued : {ls : List Layout} → Run ls → (l : Layout) → OneOf l ls → (i : ℕ) (d : Datum) → At i d (tree l) → d.serial ≤ last ls
run-issued run l o i d y = let z = (run-right run l o).sound.serials.most i d y in let m = run-most run l o in omega arith

-- two pieces of the run with the same serial are the same, under the same parent
record One (k l : Layout) (i j : ℕ) (d e : Datum) : Type 0 where
  place : i ≡ j
  piece : d ≡ e
  parent : parent_of limit i (tree k) ≡ parent_of limit j (tree l)
  parent_piece : piece_at k (parent_of limit i (tree k)) ≡ piece_at l (parent_of limit j (tree l))

one_in : (l : Layout) → Right l → (i j : ℕ) (d e : Datum) → At i d (tree l) → At j e (tree l) → d.serial ≡ e.serial → One l l i j d e
one_in l h i j d e y z s =
    let p = h.sound.serials.differ i j d e y z s in
    let same : d ≡ e = sym (at-unique j d e (tree l) h.sound.sound.distinct (rw p at y) z) in
    record { place = p; piece = same; parent = rw p refl; parent_piece = rw p refl }

one-back : {k l : Layout} {i j : ℕ} {d e : Datum} → One k l i j d e → One l k j i e d
one-back o = record { place = sym o.place; piece = sym o.piece; parent = sym o.parent; parent_piece = sym o.parent_piece }

-- k had it before n
one_kept : {k l n : Layout} {i j : ℕ} {d e : Datum} → Kept k n i d → One k l i j d e → One n l i j d e
one_kept h o =
    record { place = o.place; piece = o.piece; parent = h.parent ∙ o.parent; parent_piece = h.parent_piece ∙ o.parent_piece }

-- of all states
Alike : List Layout → Type 0
Alike ls =
    (k l : Layout) → OneOf k ls → OneOf l ls → (i j : ℕ) (d e : Datum) → At i d (tree k) → At j e (tree l)
    → d.serial ≡ e.serial → One k l i j d e

run-one : {ls : List Layout} → Run ls → Alike ls
unfolding Alike
run-one (start h) k l (inl a) (inl b) i j d e y z s = rw (a, b) (one_in _ h i j d e (rw a at y) (rw b at z) s)
run-one (start h) k l (inl a) (inr o) i j d e y z s = absurd o
run-one (start h) k l (inr o) b i j d e y z s = absurd o
run-one (next {n} {l = m} {ls} run step) k l a b i j d e y z s = go (run-one run) a b
  where
    -- a piece of n, and one of an earlier state
    mixed : Alike (m ∷ ls) → (v : Layout) → OneOf v (m ∷ ls) → (p q : ℕ) (f g : Datum) → At p f (tree n) → At q g (tree v)
        → f.serial ≡ g.serial → One n v p q f g
    mixed ih v o p q f g u w t =
        ⊎_elim (λ x. one_kept x.2 (ih x.0 v x.1 o p q f g x.2.there w t))
        (λ x. let r = run-issued run v o q g w in absurd (omega arith)) (step.pieces p f u)

    go : Alike (m ∷ ls) → OneOf k (n ∷ m ∷ ls) → OneOf l (n ∷ m ∷ ls) → One k l i j d e
    go ih (inl a) (inl b) = rw (a, b) (one_in n step.right i j d e (rw a at y) (rw b at z) s)
    go ih (inl a) (inr o) = rw a (mixed ih l o i j d e (rw a at y) z s)
    go ih (inr o) (inl b) = rw b (one-back (mixed ih k o j i e d (rw b at z) y (sym s)))
    go ih (inr o) (inr q) = ih k l o q i j d e y z s

-- ---- every life is such a run

open-right : (o : Opening) (m : Mark)
    → (open_of o).outcome ≡ Ok m
    → Right (open_of o).layout
open-right o m e =
    let z = opened-so o m e in
    rw z.1 (record { sound = fresh-sound o z.0; sized = fresh-sized o })

-- l is the newest of the states l ∷ ls
module _ {l : Layout} {ls : List Layout} (run : Run (l ∷ ls)) where
  right : Right l
  right = run-right run l (inl refl)

  onward : (n : Layout) → Onward l n → Step l (l ∷ ls) n
  onward = onward-step l (l ∷ ls) right (inl refl)

  refused : (n : Layout) → n ≡ l → Step l (l ∷ ls) n
  refused n e = onward n (onward-same l n right e)

  inserts : (m : Mark) (p : PartType) (r : Rotation) (s : InsertionShape) (a : Inserted) → InsertSays l m p r s a
      → Step l (l ∷ ls) a.layout
  inserts m p r s a says =
      ⊎_elim (refused a.layout)
      (λ z. onward a.layout (onward-next right (insert-leaves l m.place p r s z.0 a z.1) z.1.next (omega arith)))
      (inserted-so l m p r s a right.sized says)

  removes : (m : Mark) (room : ℕ) (a : Removed) → RemoveSays l m room a → Step l (l ∷ ls) a.layout
  removes m room a says =
      ⊎_elim (refused a.layout) (λ z. onward a.layout (onward-remove l m.place a z.0 z.1)) (removed-so l m room a right.sized says)

  tidies : (a : Tidied) → TidySays l a → Step l (l ∷ ls) a.layout
  tidies a says =
      ⊎_elim (refused a.layout) (λ z. onward a.layout (onward-tidies right z.done.tidies)) (tidied-so l a right.sized says)

  restores : (s : Layout) → OneOf s (l ∷ ls) → Step l (l ∷ ls) (restore_of l s).layout
  restores s o =
      ⊎_elim (λ z. refused (restore_of l s).layout z.1)
      (λ z. rw z.is (restore-step l (l ∷ ls) right (inl refl) s (run-right run s o) o (run-number run s l o (inl refl)))) (restored-so l s)

life-run : {ls : List Layout} → Life ls → Run ls
life-run (opened o m e) = start (open-right o m e)
life-run (inserted l ls life m p r s a says) = let run = life-run life in next run (inserts run m p r s a says)
life-run (removed l ls life m room a says) = let run = life-run life in next run (removes run m room a says)
life-run (tidied l ls life a says) = let run = life-run life in next run (tidies run a says)
life-run (restored l ls life s o) = let run = life-run life in next run (restores run s o)

-- ---- The laws.

-- every state of a life is sound
pub states-sound : {ls : List Layout} → Life ls → (l : Layout) → OneOf l ls → SoundLayout l × Sized l
states-sound life l o = let h = run-right (life-run life) l o in (h.sound, h.sized)

-- all have one number, the newest's
pub one_number : {ls : List Layout} → Life ls → (k l : Layout) → OneOf k ls → OneOf l ls → k.number ≡ l.number
one_number life = run-number (life-run life)

pub newest-number : {n : Layout} {ls : List Layout} → Life (n ∷ ls) → (k : Layout) → OneOf k (n ∷ ls) → k.number ≡ n.number
newest-number {n} life k o = one_number life k n o (inl refl)

pub serials-rise : {ls : List Layout} → Life ls → (k l : Layout) → Later k l ls → k.serial ≤ l.serial
serials-rise life = run-rises (life-run life)

-- no serial is issued twice: two pieces of any two states that have the same serial are the same piece, at the same place and under the
-- same parent piece
pub one_piece : {ls : List Layout} → Life ls → (k l : Layout) → OneOf k ls → OneOf l ls
    → (i j : ℕ) (d e : Datum) → At i d (tree k) → At j e (tree l) → d.serial ≡ e.serial
    → (i ≡ j) × (d ≡ e) × (parent_of limit i (tree k) ≡ parent_of limit j (tree l))
    × (piece_at k (parent_of limit i (tree k)) ≡ piece_at l (parent_of limit j (tree l)))
unfolding Alike
one_piece life k l a b i j d e y z s =
    let o = run-one (life-run life) k l a b i j d e y z s in (o.place, o.piece, o.parent, o.parent_piece)
