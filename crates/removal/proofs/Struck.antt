-- The removable list when a parent has lost its last child: it is struck out, and comes back at the end. It rests on what `layout_nodes` says of its
-- lists. Assumes nothing.
use mathlib.Core.Path.{◌≡◌, refl, ap, ◌∙◌}
use mathlib.Core.List.{List}
use Prim.Native.Nat.{ℕ, ◌≤◌, ◌<◌}
use native.Mathlib.Omega.{arith}
use lib.ListN.{length}
use borrow.Author.Tests.{le-leb, lt-leb}
use Rattle.tree.specs.ListSteps.{push, strike}
use Rattle.table.specs.declared.Node.{Node}
use Rattle.lists.specs.Lists.{limit}
use Rattle.layout_nodes.specs.declared.listing.Listing.{Listing}
use Rattle.layout_nodes.specs.Listings.{Kept, entries_of, listing}
use Rattle.layout_nodes.proofs.Listed.{entries-are, kept-as, strike-length-most}
use Rattle.removal.specs.Remove.{returned}

module _ (parent : Node) (q : ℕ) (ys : List ℕ) where
  -- the parent has still a child
  pub stays : parent.first < limit → listing ys ≡ listing (returned parent q ys)
  unfolding returned
  stays h = rw (lt-leb limit parent.first h) refl

  -- it has none: m holds the list so far, and w is what is left without the parent
  module _ {m w : Listing} (e : m ≡ listing ys) (f : w ≡ listing (strike (entries_of m) q)) (room : length ys < limit) where
    struck : w ≡ listing (strike ys q)
    struck = f ∙ ap (λ (zs : List ℕ). listing (strike zs q)) (entries-are ys e)

    pub struck-kept : Kept w
    struck-kept = kept-as (strike ys q) struck (omega (arith, strike-length-most ys q))

    pub struck-room : w.count < limit
    struck-room = omega (arith, strike-length-most ys q, ap (λ (l : Listing). l.count) struck)

    pub comes_back : {r : Listing} → limit ≤ parent.first → r ≡ listing (push (entries_of w) q) → r ≡ listing (returned parent q ys)
    unfolding returned
    comes_back h g =
        g ∙ ap (λ (zs : List ℕ). listing (push zs q)) (entries-are (strike ys q) struck) ∙ rw (le-leb limit parent.first h) refl
