-- The table of a sound tree: the tree is the one that is read from it, and a booking and a removal, made on it step by step, leave
-- a table that holds the tree that document 01's rule gives. This is what the layout's calls rest on.
use mathlib.Core.Path.{◌≡◌, refl, sym, ap}
use mathlib.Core.List.{List, ◌++◌}
use Prim.Native.Nat.{ℕ, ◌<◌}
use Rattle.piece.specs.declared.node.Datum.{Datum}
use Rattle.piece.specs.declared.node.Kind.TheVariants.{Free}
use Rattle.piece.specs.declared.settings.Settings.{Settings}
use Rattle.piece.specs.Row.{nil, grow}
use Rattle.tree.specs.Tree.{Tree, In, At, Distinct, after}
use Rattle.tree.specs.Sound.{Sound}
use Rattle.tree.specs.Booking.{Booking, block, book}
use Rattle.tree.specs.Removal.{freed, board, remove, cleared}
use Rattle.tree.specs.Accepted.{Fresh}
use Rattle.tree.specs.Apart.{Removable}
use Rattle.tree.specs.Steps.{less, Rooted, Kids, leaving}
use Rattle.tree.proofs.Rows.{at_in}
use Rattle.tree.proofs.Kept.{This, Alone, only, not_top, free-alone}
use Rattle.tree.proofs.Blocks.{block_in, block-distinct}
use Rattle.tree.proofs.Kids.{Spot, spot_in}
use Rattle.tree.proofs.Goes.{subtree-is}
use Rattle.tree.proofs.Spots.{free_end, FreeLeaves, topped-rooted, where-spot, topped-leaves, leaves-from}
use Rattle.tree.proofs.BookPieces.{block_apart}
use Rattle.table.specs.declared.Node.{Node}
use Rattle.table.specs.Table.{at, Holds, append, unlink}
use Rattle.table.specs.Build.{tree_of}
use Rattle.table.specs.Steps.{plant, free_last_datum, going, unlink_all}
use Rattle.table.proofs.Rep.{shows, piece-at}
use Rattle.table.proofs.Unlink.{unlink-holds}
use Rattle.table.proofs.Unique.{tree_is}
use Rattle.table.proofs.Booking.{book-holds}
use Rattle.table.proofs.Removal.{end_is, clear-holds, remove-holds}

module _ (limit : ℕ) (settings : Settings) (t : List Node) (w : Tree) (sound : Sound limit settings w) (h : Holds limit t w) where
  rooted : Rooted w
  rooted = topped-rooted settings w sound.topped

  pub sound-tree : tree_of limit t ≡ w
  sound-tree = tree_is limit t w rooted h

  -- the parent that the table shows
  pub parent_is : (x : ℕ) (s : Spot x w) → (at t x).parent ≡ s.parent
  parent_is x s =
      let m = after s.before (grow x s.datum s.below s.behind) in
      let o = shows limit t limit limit s.parent m w h.rep s.kids in
      ap (λ (n : Node). n.parent) (piece-at limit t s.parent limit x s.before s.datum s.below s.behind o.rep)

  -- a booking in the free piece d at x
  module _ (x : ℕ) (d : Datum) (i : At x d w) (free : d.kind ≡ Free) where
    at_x : Spot x w
    at_x = spot_in x w rooted (at_in x d w i) (not_top settings x d w sound.topped (only x d w h.distinct i) free)

    abbrev q : ℕ
    q = at_x.parent

    abbrev a : Tree
    a = at_x.before

    last_leaf : Kids q (after a (grow x d nil nil)) w
    last_leaf =
        let z = where-spot x (Alone d) w at_x (free-alone settings x d w sound.topped h.distinct i free) in
        rw (z.0, z.1, z.2) at at_x.kids

    -- when the free piece has gone
    pub free-gone : Holds limit (unlink limit t x) (less x w)
    free-gone = unlink-holds limit t q x a d nil w h last_leaf

    module _ (b : Booking) (new : Fresh limit x b w) where
      low : (j : ℕ) → In j (block b d) → j < limit
      low j y = let g = block_in b d j y in rw g.2 (new.placed g.0 g.1)

      apart : Distinct (block b d)
      apart = block-distinct b d new.apart

      pub book-sound : Holds limit (plant limit (unlink limit t x) (at t x).parent (block b d)) (book x b w)
      book-sound = rw (parent_is x at_x) (book-holds limit t q x a d w b h last_leaf apart low
          (block_apart limit settings w sound x d i free b new))

  -- a removal of the piece z at x
  module _ (x : ℕ) (z : Removable x w) where
    -- where it stands
    pub spot : Spot x w
    spot = spot_in x w rooted (at_in x z.piece w z.there) z.below

    -- the row that it stands in
    pub row : Kids spot.parent (after spot.before (grow x z.piece spot.below spot.behind)) w
    row = rw (where-spot x (This z.piece) w spot (only x z.piece w h.distinct z.there)) at spot.kids

    pub leaves : FreeLeaves spot.behind
    leaves =
        (leaves-from spot.before (grow x z.piece spot.below spot.behind)
        (topped-leaves settings spot.parent (after spot.before (grow x z.piece spot.below spot.behind)) w sound.topped row)).1

    -- the places that go, by that row
    pub going-row : going t x w ≡ leaving (grow x z.piece spot.below nil) ++ free_end spot.behind
    going-row =
        rw (
          subtree-is spot.parent x spot.before z.piece spot.below spot.behind w h.distinct row,
          parent_is x spot,
          (end_is limit t spot.parent x spot.before z.piece spot.below spot.behind w h row z.solid).0,
        )
        refl

    -- when all that goes has gone
    pub clear-sound : Holds limit (unlink_all limit t (going t x w)) (cleared x w)
    clear-sound =
        rw going-row (clear-holds limit t spot.parent x spot.before z.piece spot.below spot.behind w h row leaves)

    -- and when the new piece is there
    pub remove-sound : (n m : ℕ) → n < limit → (In n (cleared x w) → ⊥)
        → Holds limit
        (append limit (unlink_all limit t (going t x w)) (at t x).parent n
        (freed m z.piece (board z.piece (free_last_datum t (at t x).parent))))
        (remove x n m w)
    remove-sound n m hn new =
        rw (
          going-row,
          parent_is x spot,
          sym (end_is limit t spot.parent x spot.before z.piece spot.below spot.behind w h row z.solid).1,
        )
        (remove-holds limit t spot.parent x spot.before z.piece spot.below spot.behind w h row n m leaves hn new)
