-- The stores that append a leaf to a row, one by one: the leaf is entered, the link that leads to it is set, and it is made the last child. That is
-- `append`. Assumes nothing.
use mathlib.Core.Path.{◌≡◌, refl}
use mathlib.Core.List.{List}
use Prim.Native.Nat.{ℕ, ◌<◌, ◌≤◌}
use borrow.Author.Tests.{le-leb, lt-leb}
use lib.ListN.{set}
use Rattle.piece.specs.declared.node.Datum.{Datum}
use Rattle.table.specs.declared.Node.{Node}
use Rattle.table.specs.Table.{at, close, mk, with_first, with_next, tie, append}

module _ (limit : ℕ) (t : List Node) (q a : ℕ) (d : Datum) {leaf : Node} (new : leaf ≡ mk d q (at t q).last limit limit limit) where
  -- the link is its parent's first one, if that has no child, or the next one of the last child
  pub tied-first : limit ≤ (at t q).last
      → set (set t a leaf) q (with_first (at (set t a leaf) q) a) ≡ tie limit (set t a leaf) q (at t q).last a
  tied-first h = rw (le-leb limit (at t q).last h) refl

  pub tied-next : (at t q).last < limit
      → set (set t a leaf) (at t q).last (with_next (at (set t a leaf) (at t q).last) a) ≡ tie limit (set t a leaf) q (at t q).last a
  tied-next h = rw (lt-leb limit (at t q).last h) refl

  pub appended : {u : List Node} → u ≡ tie limit (set t a leaf) q (at t q).last a → close u q a ≡ append limit t q a d
  unfolding append
  appended e = rw (e, new) refl
