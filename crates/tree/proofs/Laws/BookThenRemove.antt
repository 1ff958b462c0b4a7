-- Document 01, "Insertion" and "Removal": cut a part out of a free piece, by any of the four shapes, and take the first piece of what was made
-- out again: the tree is what it was. The part must fit; and the first new node gets a place that was not held, or that of the free piece.
use mathlib.Core.Path.{◌≡◌}
use mathlib.Core.Bool.{true}
use Prim.Native.Nat.{ℕ}
use Rattle.piece.specs.declared.node.Datum.{Datum}
use Rattle.piece.specs.declared.node.Kind.TheVariants.{Free}
use Rattle.piece.specs.declared.settings.Settings.{Settings}
use Rattle.piece.specs.Offers.{fits}
use Rattle.tree.specs.Tree.{Tree, In, At}
use Rattle.tree.specs.Sound.{Sound}
use Rattle.tree.specs.Snapshot.{Same}
use Rattle.tree.specs.Booking.{Booking, book}
use Rattle.tree.specs.Removal.{remove}
use Rattle.tree.proofs.Shapes.{same-of-shape}
use Rattle.tree.proofs.Bookings.{book-back}

pub book-then-remove : {limit : ℕ} {settings : Settings} (t : Tree) (x n s : ℕ) (d : Datum) (b : Booking)
    → Sound limit settings t → At x d t → d.kind ≡ Free → fits d.size b.size ≡ true
    → (In (b.place 0) t → b.place 0 ≡ x)
    → Same (remove (b.place 0) n s (book x b t)) t
book-then-remove {settings} t x n s d b w a f g o =
    same-of-shape (remove (b.place 0) n s (book x b t)) t (book-back settings x n s b t d w a (f, g) o)
