-- Document 01, "Sound layout": the clauses on the numbers of a layout. The tests of the domain, of the two sums and of the serials say yes
-- exactly when these are as the rule has them.
use mathlib.Core.Path.{◌≡◌, sym}
use mathlib.Core.List.{List}
use mathlib.Core.Logic.{⊎_elim}
use Prim.Native.Nat.{ℕ, ◌≤◌}
use native.Mathlib.Omega.{arith}
use lib.ListN.{get_or}
use Rattle.piece.specs.declared.node.Datum.{Datum}
use Rattle.tree.specs.Tree.{Tree, At, count}
use Rattle.tree.specs.Figures.{part_area}
use Rattle.tree.specs.Steps.{Marked}
use Rattle.tree.proofs.Rows.{same?}
use Rattle.table.specs.declared.Node.{Node}
use Rattle.table.specs.Table.{at, Holds}
use Rattle.lists.specs.Search.{differ}
use Rattle.lists.proofs.Found.{differ-at, differ-all}
use Rattle.sound.specs.Columns.{checked_columns, serials_of}
use Rattle.sound.specs.Listed.{none_above_b}
use Rattle.sound.proofs.Says.{Says, worded, eq-says, le-says, and-says, every-says}
use Rattle.sound.proofs.Worth.{serial-at, holds-count, holds-part-area}
use Rattle.sound.proofs.Serials.{PiecesDiffer, pieces-differ, places-differ}
use Rattle.layout.specs.declared.layout.Layout.{Layout}
use Rattle.layout.specs.Check.{limit, max_serial, sums_b, serials_b}
use Rattle.layout.specs.SoundLayout.{Serials}
use Rattle.layout.proofs.Listed.{piece-low, piece-held, serial-of}

-- the nodes held, and "used area is the sum over parts"
pub sums-says : (l : Layout) (w : Tree) → Holds limit l.nodes w → Marked w
    → Says (sums_b l (checked_columns l.nodes)) ((l.held ≡ count w) × (l.used ≡ part_area w))
unfolding sums_b
sums-says l w h marked =
    rw (holds-count limit l.nodes w h marked, holds-part-area limit l.nodes w h)
    (worded (and-says (eq-says (count w) l.held) (eq-says (part_area w) l.used))
    (λ g. (sym g.0, sym g.1)) (λ g. (sym g.0, sym g.1)))

module _ (t : List Node) (w : Tree) (h : Holds limit t w) (marked : Marked w) where
  most-says : (last : ℕ) → Says (none_above_b limit (serials_of t) last) ((i : ℕ) (d : Datum) → At i d w → d.serial ≤ last)
  unfolding none_above_b
  most-says last =
      worded (every-says (λ i. le-says (get_or (serials_of t) i 0) last) limit)
      (λ g i d y. let s = serial-of t w h i d y in let b = g i (piece-low t w h i d y) in omega arith)
      (λ g i b.
      let s = serial-at t i in
      ⊎_elim (λ z. omega arith) (λ n. let m = g i (at t i).datum (piece-held t w h i b (omega arith)) in omega arith)
      (same? (at t i).datum.serial 0))

  differ-says : Says (differ limit (serials_of t)) (PiecesDiffer w)
  differ-says =
      record {
        says = λ e. pieces-differ limit t w h marked (λ i j a b s n. differ-at limit (serials_of t) e i j a b n s);
        passes = λ d. differ-all limit (serials_of t) (λ i j a b n s. places-differ limit t w h d i j a b s n);
      }

  -- "live serials differ, are at least 1 and at most the last serial issued, itself at most 1,000,000"
  pub serials-says : (last : ℕ) → Says (serials_b (serials_of t) last) (Serials w last)
  unfolding serials_b
  serials-says last =
      worded (and-says (le-says last max_serial) (and-says (most-says last) differ-says))
      (λ g. record { differ = g.1.1; least = marked; most = g.1.0; spent = g.0 })
      (λ s. (s.spent, (s.most, s.differ)))
