-- What is asked of a booking before it is made. Document 01, "Offers", "Insertion" and "Marks".
use Rattle.std.specs.Prelude.{◌≡◌, true, ℕ, ◌≤◌, ◌<◌}
use mathlib.Core.List.{Memᴰ}
use Rattle.piece.specs.declared.node.Datum.{Datum}
use Rattle.piece.specs.declared.settings.Settings.{Settings}
use Rattle.piece.specs.Insertion.{new_nodes}
use Rattle.piece.specs.Offers.{fits, along, across, shapes}
use Rattle.tree.specs.Tree.{Tree, In}
use Rattle.tree.specs.Sound.{Sided, max_number}
use Rattle.tree.specs.Booking.{Booking}

-- what is booked in the free piece d: "A rotation that does not fit both ways gives nothing"; the shape is one of those that "first match wins"
-- leaves; "part sides 1..67,108,863", "part numbers 0..65,535"; the blade is the layout's
pub record Fitting (settings : Settings) (d : Datum) (b : Booking) : Type 0 where
  pub inside : fits d.size b.size ≡ true
  pub offered : Memᴰ b.shape (shapes (along d.cut d.size b.size) (across d.cut d.size b.size) d.level settings.stages)
  pub sided : Sided b.size
  pub numbered : b.number ≤ max_number
  pub bladed : b.blade ≡ settings.blade

-- "A new node takes the lowest unheld place, after the nodes it replaces were freed": places below the limit, no two alike, and none that is
-- held, but for x, which is freed
pub record Fresh (limit x : ℕ) (b : Booking) (t : Tree) : Type 0 where
  pub placed : (i : ℕ) → i < new_nodes b.shape → b.place i < limit
  pub apart : (i j : ℕ) → i < j → j < new_nodes b.shape → b.place i ≡ b.place j → ⊥
  pub unheld : (i : ℕ) → i < new_nodes b.shape → In (b.place i) t → b.place i ≡ x
