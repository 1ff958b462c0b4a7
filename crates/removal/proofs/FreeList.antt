-- The free list after a removal: the free pieces that go are cut out, and the new one is put in where its area belongs. It rests on the pieces
-- that a removal leaves (Pieces) and on the steps of a free list (register, FreeSteps).
use mathlib.Core.Path.{◌≡◌}
use mathlib.Core.List.{List}
use Prim.Native.Nat.{ℕ, ◌+◌}
use native.Mathlib.Omega.{arith}
use Rattle.piece.specs.declared.node.Datum.{Datum}
use Rattle.piece.specs.declared.settings.Settings.{Settings}
use Rattle.piece.specs.Sides.{area}
use Rattle.tree.specs.Tree.{Tree, In, At, Distinct}
use Rattle.tree.specs.Sound.{Sound}
use Rattle.tree.specs.Removal.{remove, cleared}
use Rattle.tree.specs.Apart.{Removable}
use Rattle.tree.specs.ListSteps.{omit_all, put}
use Rattle.tree.specs.Pieces.{pieces_of, FreeList, Serials}
use Rattle.tree.proofs.Rows.{at_in}
use Rattle.tree.proofs.Bookings.{at-unique}
use Rattle.tree.proofs.RemoveKept.{remove-distinct}
use Rattle.tree.proofs.Stays.{at-remove, cleared_at}
use Rattle.table.specs.declared.Node.{Node}
use Rattle.table.specs.Table.{Holds}
use Rattle.table.specs.Steps.{going}
use Rattle.table.proofs.Steps.{clear-sound}
use Rattle.layout_nodes.proofs.FreeSteps.{free-cut-all, free-put}
use Rattle.removal.specs.Remove.{new_free}
use Rattle.removal.proofs.Pieces.{cleared-was, cleared-stays, new-there, remove-pieces}
use Rattle.removal.proofs.Serials.{new-serial, new-free}

-- one piece stands at a place
alone : (v : Tree) → Distinct v → (i : ℕ) (e f : Datum) → At i e v → At i f v → e ≡ f
alone v dis i e f y g = at-unique i f e v dis g y

module _ (limit : ℕ) (settings : Settings) (t : List Node) (w : Tree) (sound : Sound limit settings w) (h : Holds limit t w)
    (x : ℕ) (z : Removable x w) (xs : List ℕ) (free : FreeList w xs) where
  left_alone : (i : ℕ) (e f : Datum) → At i e (cleared x w) → At i f (cleared x w) → e ≡ f
  left_alone = alone (cleared x w) (clear-sound limit settings t w sound h x z).distinct

  -- when all that goes has gone
  pub cleared-free : FreeList (cleared x w) (omit_all xs (going t x w))
  cleared-free =
      free-cut-all (pieces_of w) (pieces_of (cleared x w)) (going t x w) xs
      (λ i e y q n. cleared-stays limit settings t w sound h x z i e y n)
      (λ i e y q. cleared_at i e x w y)
      (λ i e y q. (cleared-was limit settings t w sound h x z i e y).1)
      left_alone free

  -- and when the new piece is there; the areas are those of the pieces then
  pub remove-free : (n last : ℕ) → (In n (cleared x w) → ⊥) → Serials w last → (areas : ℕ → ℕ)
      → ((i : ℕ) (e : Datum) → At i e (remove x n (last + 1) w) → areas i ≡ area e.size)
      → FreeList (remove x n (last + 1) w) (put areas (omit_all xs (going t x w)) n)
  remove-free n last unheld serials areas sized =
      free-put (pieces_of (cleared x w)) (pieces_of (remove x n (last + 1) w)) areas n (new_free t x last) (omit_all xs (going t x w))
      (λ i e y q. at-remove x n (last + 1) i e w y)
      (λ i e y q. remove-pieces limit settings t w sound h x z n last unheld i e y)
      (new-there limit settings t w sound h x z n last)
      (new-free t x last)
      (λ e y q. unheld (at_in n e (cleared x w) y))
      (λ i e y q. omega (arith, serials.most i e (cleared_at i e x w y), new-serial t x last))
      left_alone
      (alone (remove x n (last + 1) w) (remove-distinct x n (last + 1) w h.distinct unheld))
      (λ i e y q. sized i e y)
      cleared-free
