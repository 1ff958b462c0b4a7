-- Document 02, No. 10: a deed is done, and then others, at once: that is the tree in which all of them are done at once. It is said of any deed and any list of
-- others, so that it carries two bookings, two removals, a booking and a removal, and a list of any length. The others are at pieces that the first leaves:
-- where it takes a piece out, nothing is booked in the free piece of that row, which goes with it. And of the list only what it has for each place counts, not
-- its order.
use mathlib.Core.Path.{◌≡◌}
use mathlib.Core.List.{List, ◌∷◌}
use mathlib.Core.Option.{some}
use Prim.Native.Nat.{ℕ}
use Rattle.piece.specs.declared.settings.Settings.{Settings}
use Rattle.tree.specs.Tree.{Tree, In, change}
use Rattle.tree.specs.Sound.{Sound}
use Rattle.tree.specs.Snapshot.{shape}
use Rattle.tree.specs.AtOnce.{AlikeDeed, Deed, Spared, Suited, Task, at_once, deed_at, does, leaves}
use Rattle.tree.proofs.AtOnce.{first-then-rest, same-at-once}

-- f' is f but for the marks of what is new; the shape of a tree is the tree without its marks (specs/Snapshot.antt)
pub one-then-the-others : {limit : ℕ} {settings : Settings} (t : Tree) → Sound limit settings t → (x : ℕ) (f f' : Deed) (ts : List Task)
    → AlikeDeed f f' → (x ≡ 0 → ⊥) → Spared f ts → ((i : ℕ) (g : Deed) → deed_at i ts ≡ some g → In i t → In i (leaves f x t)) → Suited ts t
    → shape (at_once ts (change x (does f) t)) ≡ shape (at_once (record { place = x; deed = f' } ∷ ts) t)
one-then-the-others = first-then-rest

pub any-list-order : (ts us : List Task) → ((i : ℕ) → deed_at i ts ≡ deed_at i us) → (t : Tree) → at_once ts t ≡ at_once us t
any-list-order = same-at-once
