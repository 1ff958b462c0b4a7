-- A booking that is offered, in a free piece and within the limit, keeps a sound tree sound, wherever its nodes get unheld places. Document 01,
-- "Offers", "Insertion", "Sound layout" and "Marks".
use mathlib.Core.Path.{◌≡◌}
use mathlib.Core.Logic.{⊎_elim}
use Prim.Native.Nat.{ℕ, ◌+◌, ◌≤◌}
use native.Mathlib.Omega.{arith}
use Rattle.piece.specs.declared.node.Datum.{Datum}
use Rattle.piece.specs.declared.node.Kind.TheVariants.{Free}
use Rattle.piece.specs.declared.settings.Settings.{Settings}
use Rattle.piece.specs.Insertion.{new_nodes}
use Rattle.tree.specs.Tree.{Tree, At, count}
use Rattle.tree.specs.Sound.{Sound}
use Rattle.tree.specs.Booking.{Booking, book}
use Rattle.tree.specs.Accepted.{Fitting, Fresh}
use Rattle.tree.proofs.Pieces.{sound}
use Rattle.tree.proofs.BookKept.{book-topped, book-distinct}
use Rattle.tree.proofs.Counts.{count-book, in-book}

pub booking-sound : (limit : ℕ) (settings : Settings) (t : Tree) (x : ℕ) (d : Datum) (b : Booking) → Sound limit settings t → At x d t
    → d.kind ≡ Free → Fitting settings d b → Fresh limit x b t → count t + new_nodes b.shape ≤ limit + 1 → Sound limit settings (book x b t)
booking-sound limit settings t x d b h i a fit fresh room =
    sound h.domain (book-topped settings x d b t h.topped h.distinct i a fit)
    (omega (arith, count-book limit settings t x d b h i a))
    (λ j g. ⊎_elim (λ z. h.placed j z.0) (λ z. omega (arith, fresh.placed z.0 z.1, z.2)) (in-book x b j t h.distinct g))
    (book-distinct limit x b t h.distinct fresh)
