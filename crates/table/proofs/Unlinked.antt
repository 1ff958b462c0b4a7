-- The stores that take a leaf out of its row, one by one: what is before it and what is behind it are joined, and its place is zero. That is
-- `unlink`. Assumes nothing.
use mathlib.Core.Path.{◌≡◌, refl, ap, ◌∙◌}
use mathlib.Core.List.{List}
use Prim.Native.Nat.{ℕ, ◌≤◌, ◌<◌}
use borrow.Author.Tests.{le-leb, lt-leb}
use lib.ListN.{set}
use Rattle.table.specs.declared.Node.{Node}
use Rattle.table.specs.Table.{at, join_after, join_before, unlink, with_first, with_last, with_next, with_prev, zero_node}

module _ (limit : ℕ) (t : List Node) (n : Node) where
  -- t with what is before n and what is behind it joined
  abbrev before : List Node
  before = join_before limit t n.parent n.prev n.next

  abbrev after : List Node
  after = join_after limit t n.parent n.prev n.next

  module _ {u : List Node} where
    pub first-joined : limit ≤ n.prev → u ≡ set t n.parent (with_first (at t n.parent) n.next) → u ≡ before
    first-joined h f = f ∙ rw (le-leb limit n.prev h) refl

    pub next-joined : n.prev < limit → u ≡ set t n.prev (with_next (at t n.prev) n.next) → u ≡ before
    next-joined h f = f ∙ rw (lt-leb limit n.prev h) refl

    pub last-joined : limit ≤ n.next → u ≡ set t n.parent (with_last (at t n.parent) n.prev) → u ≡ after
    last-joined h f = f ∙ rw (le-leb limit n.next h) refl

    pub prev-joined : n.next < limit → u ≡ set t n.next (with_prev (at t n.next) n.prev) → u ≡ after
    prev-joined h f = f ∙ rw (lt-leb limit n.next h) refl

module _ (limit : ℕ) (t : List Node) (x : ℕ) {u v : List Node} {z : Node} where
  pub unlinked : u ≡ before limit t (at t x) → v ≡ after limit u (at t x) → z ≡ zero_node → set v x z ≡ unlink limit t x
  unfolding unlink
  unlinked e f g =
      ap (λ (m : Node). set v x m) g
      ∙ ap (λ (w : List Node). set w x zero_node) (f ∙ ap (λ (w : List Node). after limit w (at t x)) e)
