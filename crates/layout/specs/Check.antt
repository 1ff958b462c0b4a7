-- The soundness check as a test: what the code computes. specs/SoundLayout.antt is the rule; proofs/Exactly.antt says that the two agree.
use Rattle.std.specs.Prelude.{List, Bool, true, false, ◌&&◌, ℕ, eqb, leb}
use Rattle.tree.specs.Tree.{Tree}
pub use Rattle.tree.specs.Pieces.{max_serial}
use Rattle.table.specs.Table.{at}
use Rattle.table.specs.Build.{tree_of}
-- the most nodes that a layout holds is the number of entries of a list
pub use Rattle.lists.specs.Lists.{limit}
use Rattle.lists.specs.Search.{differ, zero_tail}
use Rattle.lists.specs.Flags.{ok_b, flags_of}
use Rattle.sound.specs.Columns.{Columns, checked_columns}
pub use Rattle.sound.specs.Frame.{side_b, domain_b}
use Rattle.sound.specs.Places.{places_b, top_b}
use Rattle.sound.specs.Rows.{rows_b}
use Rattle.sound.specs.Hung.{hung_b}
use Rattle.sound.specs.Listed.{area_listed, covers_b, held_in, none_above_b, sorted_b}
use Rattle.layout.specs.declared.layout.Layout.{Layout}

-- the tree that a layout holds
abbrev pub tree : Layout → Tree
tree l = tree_of limit l.nodes

unfoldable pub table_b : Layout → Bool
table_b l = places_b limit l.nodes && (top_b limit l.settings (at l.nodes 0) && rows_b limit l.settings l.nodes)

unfoldable pub covered_b : Bool → List ℕ → ℕ → List ℕ → List ℕ → Bool
covered_b free list n serial kind =
    ok_b limit list n && (covers_b limit free serial kind (flags_of limit list n) && zero_tail limit list n)

unfoldable pub serials_b : List ℕ → ℕ → Bool
serials_b serial last = leb last max_serial && (none_above_b limit serial last && differ limit serial)

unfoldable pub sums_b : Layout → Columns → Bool
sums_b l c =
    eqb (held_in c.serial limit) l.held && eqb (area_listed 1 c.kind c.area limit) l.used

unfoldable pub free_b : Layout → Columns → Bool
free_b l c =
    covered_b true l.free l.frees c.serial c.kind && sorted_b c.area c.serial l.free l.frees

unfoldable pub removable_b : Layout → Columns → Bool
removable_b l c = covered_b false l.removable l.removables c.serial c.kind

unfoldable pub columns_b : Layout → Columns → Bool
columns_b l c =
    hung_b limit c.serial c.first c.next
    && (sums_b l c && (serials_b c.serial l.serial && (free_b l c && removable_b l c)))

unfoldable pub sound_b : Layout → Bool
sound_b l = domain_b l.settings && (table_b l && columns_b l (checked_columns l.nodes))
