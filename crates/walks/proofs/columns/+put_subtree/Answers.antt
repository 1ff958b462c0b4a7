-- `columns::put_subtree` meets its contract. WalkSteps has the argument: here stand the places of the walk in its words. Assumes nothing.
use mathlib.Core.Path.{◌≡◌, refl, subst}
use mathlib.Core.List.{List, []}
use Prim.Native.Nat.{ℕ, ◌+◌, ◌-◌, ◌<◌, ◌≤◌}
use native.Mathlib.Omega.{arith}
use lib.ListN.{length, get_or}
use lib.Seq.{sets}
use Rattle.lists.specs.Lists.{limit}
use Rattle.walks.specs.Chain.{siblings}
use Rattle.walks.specs.Walk.{nothing}
use Rattle.walks.specs.Snapshot.{snapshot_of}
use Rattle.walks.proofs.Chain.{siblings-over, siblings-zero}
use Rattle.walks.proofs.Written.{Left, begin, piece, piece-room, end, done}
use Rattle.walks.proofs.WalkSteps.{Call, Turn, yet, all, under, none, start, over, child-room, child-done}
use Rattle.walks.proofs.columns.+put_subtree.Goals as goal

module _ (first next : List ℕ) (g : ℕ → List ℕ) (left x : ℕ) (l : List ℕ) (k : ℕ)
    (room : k + length (snapshot_of limit first next g left x) ≤ length l) where
  -- the call, by the room that it asks
  abbrev call : Call
  call =
      record {
        limit = limit;
        first = first;
        next = next;
        before = g;
        after = nothing;
        left = left;
        x = x;
        l = l;
        k = k;
        room = room;
      }

  -- what is still to be written with so many turns left, from the child c on
  abbrev still : (turns c : ℕ) → List ℕ
  still turns c = yet limit first next g nothing left x turns c

  -- a turn
  abbrev at-turn : (turn c : ℕ) {a l₀ l₁ : List ℕ} {k₀ k₁ : ℕ} → turn < left → c < limit → Left a l₀ k₀ (still (left - turn) c) l₁ k₁ → Turn
  at-turn turn c more held inv =
      record {
        call = call;
        turns = left - turn;
        c = c;
        a = _;
        l₀ = _;
        k₀ = _;
        l = _;
        k = _;
        more = omega arith;
        held = held;
        inv = inv;
      }

  -- the own bytes are written
  entered : {l₀ : List ℕ} → (left ≡ 0 → ⊥) → l₀ ≡ sets l k (g x) → Left (all call) l k (under call) l₀ (k + length (g x))
  entered some own = piece (g x) (under call) (start call some) own refl

  -- the child's subtree is written
  turned : (turn c : ℕ) {a l₀ l₁ l₂ : List ℕ} {k₀ k₁ k₂ : ℕ} → turn < left → c < limit → Left a l₀ k₀ (still (left - turn) c) l₁ k₁
      → l₂ ≡ sets l₁ k₁ (snapshot_of limit first next g (left - 1) c) → k₂ ≡ k₁ + length (snapshot_of limit first next g (left - 1) c)
      → Left a l₀ k₀ (still (left - (turn + 1)) (get_or next c 0)) l₂ k₂
  turned turn c {a = a} {l₀ = l₀} {l₂ = l₂} {k₀ = k₀} {k₂ = k₂} more held inv e f =
      let n : (left - turn) - 1 ≡ left - (turn + 1) = omega arith in
      subst (λ (m : ℕ). Left a l₀ k₀ (still m (get_or next c 0)) l₂ k₂) n (child-done (at-turn turn c more held inv) e f)

  -- after the last child all is written
  ended : (turns c : ℕ) {l₀ l₁ : List ℕ} {k₁ : ℕ} → (left ≡ 0 → ⊥) → l₀ ≡ sets l k (g x) → siblings limit next turns c ≡ []
      → Left (under call) l₀ (k + length (g x)) (still turns c) l₁ k₁
      → (l₁ ≡ sets l k (all call)) × (k₁ ≡ k + length (all call))
  ended turns c some own no-more inv =
      let e = done (over call turns c no-more inv) in
      end (under call) (entered some own) e.0 e.1

pub returns-then-left-eq0 : goal.returns-then-left-eq0
returns-then-left-eq0 t c =
    let e = none (call _ _ _ _ _ _ _ c.requires.1) c.if-left-eq0.true in
    record { written = e.0; counted = e.1 }

pub put_node-requires : goal.put_node-requires
put_node-requires t c =
    let s = call _ _ _ _ _ _ _ c.requires.1 in
    piece-room (s.before s.x) (under s) (start s c.if-left-eq0.false)

pub loop-turn-init : goal.loop-turn-init
loop-turn-init t c = begin (entered _ _ _ _ _ _ _ c.requires.1 c.if-left-eq0.false c.put_node.ensures).room

pub put_subtree-k-requires : goal.put_subtree-k-requires
put_subtree-k-requires t c =
    (omega arith, (c.if-c-ge-NONE.false, child-room (at-turn _ _ _ _ _ _ _ c.requires.1 c.loop-turn._turn _ c.loop-turn-test.true c.if-c-ge-NONE.false c.loop-turn.invariant)))

pub loop-turn-preserved : goal.loop-turn-preserved
loop-turn-preserved t c =
    let e = c.put_subtree-k.ensures in
    turned _ _ _ _ _ _ _ c.requires.1 c.loop-turn._turn _ c.loop-turn-test.true c.if-c-ge-NONE.false c.loop-turn.invariant e.written e.counted

pub returns-after-loop-turn : goal.returns-after-loop-turn
returns-after-loop-turn t c =
    let i = c.loop-turn in
    let n = c.args.left - i._turn in
    let no-more = siblings-zero limit c.args.next.now i.c n (omega arith) in
    let e = ended _ _ _ _ _ _ _ c.requires.1 n i.c c.if-left-eq0.false c.put_node.ensures no-more i.invariant in
    record { written = e.0; counted = e.1 }

pub returns-then-c-ge-NONE : goal.returns-then-c-ge-NONE
returns-then-c-ge-NONE t c =
    let i = c.loop-turn in
    let n = c.args.left - i._turn in
    let no-more = siblings-over limit c.args.next.now i.c n c.if-c-ge-NONE.true in
    let e = ended _ _ _ _ _ _ _ c.requires.1 n i.c c.if-left-eq0.false c.put_node.ensures no-more i.invariant in
    record { written = e.0; counted = e.1 }
