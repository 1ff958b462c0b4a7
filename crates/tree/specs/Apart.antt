-- Two bookings, or two removals, that have nothing to do with one another. Document 01, "Insertion", "Removal" and "Marks".
use Rattle.std.specs.Prelude.{◌≡◌, false, ℕ, ◌<◌}
use Rattle.piece.specs.declared.node.Datum.{Datum}
use Rattle.piece.specs.Kinds.{is_free}
use Rattle.tree.specs.Tree.{Tree, At}
use Rattle.tree.specs.Booking.{Booking}

-- the same booking but for its marks: which places and serials the new nodes get depends on what was done before
pub record Alike (b b' : Booking) : Type 0 where
  pub shape : b.shape ≡ b'.shape
  pub size : b.size ≡ b'.size
  pub number : b.number ≡ b'.number
  pub blade : b.blade ≡ b'.blade

-- none of the nodes that b makes, at most five, gets the place y
abbrev pub Clear : ℕ → Booking → Type 0
Clear y b = (i : ℕ) → i < 5 → b.place i ≡ y → ⊥

-- "Removal is of a part or a structure, never of the top or a free piece": the piece at x, not free and not the top, which is at place 0
pub record Removable (x : ℕ) (t : Tree) : Type 0 where
  pub piece : Datum
  pub there : At x piece t
  pub solid : is_free piece.kind ≡ false
  pub below : x ≡ 0 → ⊥
