-- Document 01, "Insertion": cut a part out of each of two different free pieces: the tree is the same whichever was first. The new nodes' marks
-- may differ, but no new node of the first cut gets the place of the other free piece, which is held then.
use mathlib.Core.Path.{◌≡◌}
use Prim.Native.Nat.{ℕ}
use Rattle.tree.specs.Tree.{Tree}
use Rattle.tree.specs.Snapshot.{Same}
use Rattle.tree.specs.Booking.{Booking, book}
use Rattle.tree.specs.Apart.{Alike, Clear}
use Rattle.tree.proofs.Shapes.{same-of-shape}
use Rattle.tree.proofs.Bookings.{books-commute}

pub bookings-commute : (t : Tree) (x y : ℕ) (b c b' c' : Booking) → (x ≡ y → ⊥) → Clear y b → Clear x c' → Alike b b' → Alike c c'
    → Same (book y c (book x b t)) (book x b' (book y c' t))
bookings-commute t x y b c b' c' n nb nc ab ac =
    same-of-shape (book y c (book x b t)) (book x b' (book y c' t)) (books-commute x y b c b' c' n nb nc ab ac t)
