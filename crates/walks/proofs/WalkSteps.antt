-- The steps of a walk down a subtree, over its definition: they rest on the turns of Chain and the pieces of Written. Assumes nothing.
use mathlib.Core.Path.{◌≡◌, refl, subst}
use mathlib.Core.List.{List, [], ◌++◌, append_assoc}
use Prim.Native.Nat.{ℕ, zero, suc, ◌+◌, ◌-◌, ◌<◌, ◌≤◌}
use native.Mathlib.Omega.{arith}
use lib.ListN.{length, get_or}
use lib.Seq.{sets}
use Rattle.walks.specs.Chain.{siblings}
use Rattle.walks.specs.Walk.{gathered, walk_of}
use Rattle.walks.proofs.Chain.{less_one, siblings-more}
use Rattle.walks.proofs.Written.{Left, begin, piece, piece-room}

module _ (limit : ℕ) (first next : List ℕ) (before after : ℕ → List ℕ) where
  -- what is written after x's own that comes first, from the child c on
  abbrev pub yet : (left x turns c : ℕ) → List ℕ
  yet left x turns c = gathered (walk_of limit first next before after (left - 1)) (siblings limit next turns c) ++ after x

  -- from the first child on
  abbrev pub below : (left x : ℕ) → List ℕ
  below left x = yet left x (left - 1) (get_or first x 0)

  walk_none : (n x : ℕ) → n ≡ 0 → walk_of limit first next before after n x ≡ []
  unfolding walk_of
  walk_none n x e = rw e

  pub walk_more : (n x : ℕ) → (n ≡ 0 → ⊥) → walk_of limit first next before after n x ≡ before x ++ below n x
  unfolding walk_of
  walk_more zero x h = absurd (h refl)
  walk_more (suc n) x h = rw (less_one n)

-- a call of the walk: what is lent to it, what it writes of each node, its place x with so many nodes left, and where it writes
pub record Call : Type 0 where
  pub limit : ℕ
  pub first : List ℕ
  pub next : List ℕ
  pub before : ℕ → List ℕ
  pub after : ℕ → List ℕ
  pub left : ℕ
  pub x : ℕ
  pub l : List ℕ
  pub k : ℕ
  pub room : k + length (walk_of limit first next before after left x) ≤ length l

-- all that it writes; the subtree of a child; what it writes from the child c on, and from the first
abbrev pub all : Call → List ℕ
all s = walk_of s.limit s.first s.next s.before s.after s.left s.x

abbrev child : Call → ℕ → List ℕ
child s c = walk_of s.limit s.first s.next s.before s.after (s.left - 1) c

abbrev from : Call → (turns c : ℕ) → List ℕ
from s turns c = yet s.limit s.first s.next s.before s.after s.left s.x turns c

abbrev pub under : Call → List ℕ
under s = below s.limit s.first s.next s.before s.after s.left s.x

-- nothing is left: nothing is written
pub none : (s : Call) → s.left ≡ 0 → (s.l ≡ sets s.l s.k (all s)) × (s.k ≡ s.k + length (all s))
none s e = rw walk_none (refl, omega arith)

-- all is to be written, x's own and then what is below
pub start : (s : Call) → (s.left ≡ 0 → ⊥) → Left (all s) s.l s.k (s.before s.x ++ under s) s.l s.k
start s some =
    subst (λ (z : List ℕ). Left (all s) s.l s.k z s.l s.k)
    (walk_more s.limit s.first s.next s.before s.after s.left s.x some) (begin s.room)

-- after the last child x's own that comes last is left
pub over : (s : Call) {a l₀ l : List ℕ} {k₀ k : ℕ} (turns c : ℕ) → siblings s.limit s.next turns c ≡ [] → Left a l₀ k₀ (from s turns c) l k
    → Left a l₀ k₀ (s.after s.x) l k
over s turns c none e =
    rw none at e

-- a turn of its loop, at the child c
pub record Turn : Type 0 where
  pub call : Call
  pub turns : ℕ
  pub c : ℕ
  pub a : List ℕ
  pub l₀ : List ℕ
  pub k₀ : ℕ
  pub l : List ℕ
  pub k : ℕ
  pub more : 0 < turns
  pub held : c < call.limit
  pub inv : Left a l₀ k₀ (from call turns c) l k

module _ (w : Turn) where
  abbrev later : List ℕ
  later = from w.call (w.turns - 1) (get_or w.call.next w.c 0)

  -- the child's subtree comes first
  turned : Left w.a w.l₀ w.k₀ (child w.call w.c ++ later) w.l w.k
  turned = rw (siblings-more w.call.limit w.call.next w.c w.turns w.more w.held, append_assoc) at w.inv

  -- there is room for it, and then it is written
  pub child-room : w.k + length (child w.call w.c) ≤ length w.l
  child-room = piece-room (child w.call w.c) later turned

  pub child-done : {l : List ℕ} {k : ℕ} → l ≡ sets w.l w.k (child w.call w.c) → k ≡ w.k + length (child w.call w.c)
      → Left w.a w.l₀ w.k₀ later l k
  child-done written counted = piece (child w.call w.c) later turned written counted
