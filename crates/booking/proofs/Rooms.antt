-- The free list has room for the new pieces once the booked one has gone, and a list of the booked tree's pieces has room: each is no longer than
-- there are pieces. It rests on register's `holding-most`.
use mathlib.Core.Path.{◌≡◌}
use mathlib.Core.List.{List}
use Prim.Native.Nat.{ℕ, ◌+◌, ◌≤◌}
use native.Mathlib.Omega.{arith}
use lib.ListN.{length}
use Rattle.piece.specs.declared.node.Datum.{Datum}
use Rattle.piece.specs.declared.node.Kind.TheVariants.{Free}
use Rattle.piece.specs.declared.settings.Settings.{Settings}
use Rattle.piece.specs.Insertion.{new_nodes}
use Rattle.tree.specs.Tree.{Tree, At, count}
use Rattle.tree.specs.Sound.{Sound}
use Rattle.tree.specs.Booking.{Booking, book}
use Rattle.tree.specs.Steps.{less}
use Rattle.tree.specs.ListSteps.{omit}
use Rattle.tree.specs.Pieces.{pieces_of, Holding, FreeList}
use Rattle.layout_nodes.proofs.HoldingSteps.{holding-most}
use Rattle.booking.proofs.Sums.{less-count, book-count}
use Rattle.booking.proofs.FreeList.{cut-free}

module _ (limit : ℕ) (settings : Settings) (w : Tree) (sound : Sound limit settings w) (x : ℕ) (d : Datum) (there : At x d w)
    (free : d.kind ≡ Free) (b : Booking) (room : count w + new_nodes b.shape ≤ limit + 1) where
  -- the free list, when the free piece has gone
  pub free-room : (xs : List ℕ) → FreeList w xs → length (omit xs x) + new_nodes b.shape ≤ limit
  free-room xs f =
      let most = holding-most (λ e. e.kind ≡ Free) (less x w) (omit xs x) (cut-free limit settings w sound x d there free xs f).holding in
      omega (arith, less-count limit settings w sound x d there free)

  -- whatever list of pieces the booked tree has
  pub booked-room : (P : Datum → Type 0) (l : List ℕ) → Holding P (pieces_of (book x b w)) l → length l ≤ limit
  booked-room P l h =
      let most = holding-most P (book x b w) l h in
      omega (arith, book-count limit settings w sound x d there free b)
