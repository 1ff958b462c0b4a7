-- A booking on the table, by the list of its new nodes: the table then holds the booked tree. It rests on table's `book-sound`.
use mathlib.Core.Path.{◌≡◌, refl, sym, ap, ◌∙◌}
use mathlib.Core.Bool.{Bool, true, false}
use mathlib.Core.List.{List, [], ◌∷◌, ◌++◌}
use Prim.Native.Nat.{ℕ}
use Rattle.piece.specs.declared.node.Datum.{Datum}
use Rattle.piece.specs.declared.node.Kind.TheVariants.{Free}
use Rattle.piece.specs.declared.settings.Settings.{Settings}
use Rattle.piece.specs.Row.{nil, grow}
use Rattle.tree.specs.Tree.{Tree, At}
use Rattle.tree.specs.Sound.{Sound}
use Rattle.tree.specs.Booking.{Booking, block, book}
use Rattle.tree.specs.Accepted.{Fresh}
use Rattle.table.specs.declared.Node.{Node}
use Rattle.table.specs.Table.{at, Holds, append, unlink}
use Rattle.table.specs.Steps.{plant}
use Rattle.table.proofs.Steps.{book-sound}
use Rattle.booking.specs.declared.new_nodes.NewNode.{NewNode}
use Rattle.booking.specs.NewNodes.{leaves, append_each}

append-both : (limit : ℕ) (t : List Node) (m n : List NewNode) → append_each limit t (m ++ n) ≡ append_each limit (append_each limit t m) n
append-both limit t [] n = refl
append-both limit t (a ∷ m) n = append-both limit (append limit t a.under a.place a.datum) m n

-- a row that is planted under q is appended node by node
pub plant-each : (limit : ℕ) (r : Tree) (t : List Node) (q : ℕ) (none : Bool) → plant limit t q r ≡ append_each limit t (leaves q none r)
plant-each limit nil t q none = refl
plant-each limit (grow p d k r) t q none =
    ap (λ (u : List Node). plant limit u q r) (plant-each limit k (append limit t q p d) p true)
    ∙ plant-each limit r (append_each limit (append limit t q p d) (leaves p true k)) q false
    ∙ sym (append-both limit (append limit t q p d) (leaves p true k) (leaves q false r))

pub booked-holds : (limit : ℕ) (settings : Settings) (t : List Node) (w : Tree) → Sound limit settings w → Holds limit t w
    → (x : ℕ) (d : Datum) → At x d w → d.kind ≡ Free → (b : Booking) → Fresh limit x b w → (none : Bool)
    → Holds limit (append_each limit (unlink limit t x) (leaves (at t x).parent none (block b d))) (book x b w)
booked-holds limit settings t w sound h x d i free b new none =
    rw (plant-each limit (block b d) (unlink limit t x) (at t x).parent none) at (book-sound limit settings t w sound h x d i free b new)
