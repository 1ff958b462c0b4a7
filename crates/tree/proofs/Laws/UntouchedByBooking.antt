-- What a booking does not touch keeps its place, its serial and all else that it is: every piece but the free one that it takes. Document 01,
-- "Insertion": "The free piece W x H goes".
use mathlib.Core.Path.{◌≡◌}
use Prim.Native.Nat.{ℕ}
use Rattle.piece.specs.declared.node.Datum.{Datum}
use Rattle.piece.specs.declared.node.Kind.TheVariants.{Free}
use Rattle.piece.specs.declared.settings.Settings.{Settings}
use Rattle.tree.specs.Tree.{Tree, At}
use Rattle.tree.specs.Sound.{Sound}
use Rattle.tree.specs.Booking.{Booking, book}
use Rattle.tree.proofs.Kept.{free-alone}
use Rattle.tree.proofs.Stays.{at-book}

pub untouched-by-booking : (limit : ℕ) (settings : Settings) (t : Tree) (x : ℕ) (d : Datum) (b : Booking) (i : ℕ) (e : Datum)
    → Sound limit settings t → At x d t → d.kind ≡ Free → At i e t → (i ≡ x → ⊥) → At i e (book x b t)
untouched-by-booking limit settings t x d b i e h at free there n =
    at-book x d b i e t (free-alone settings x d t h.topped h.distinct at free) n there
