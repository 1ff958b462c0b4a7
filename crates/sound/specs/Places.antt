-- Document 01, "Sound layout", the clauses that speak of one place at a time, as a test.
use Rattle.std.specs.Prelude.{List, Bool, cond, not, ◌&&◌, ℕ, eqb, ltb, leb}
use Rattle.piece.specs.declared.size.Size.{Size}
use Rattle.piece.specs.declared.node.Datum.{Datum}
use Rattle.piece.specs.declared.node.Kind.{Kind}
use Rattle.piece.specs.declared.node.Kind.TheVariants.{Free, Part, Structure}
use Rattle.piece.specs.declared.settings.Settings.{Settings}
use Rattle.piece.specs.Sides.{is_horizontal}
use Rattle.piece.specs.Kinds.{is_free, is_structure}
use Rattle.lists.specs.Search.{every}
use Rattle.tree.specs.Sound.{max_number}
use Rattle.table.specs.declared.Node.{Node}
use Rattle.table.specs.Table.{at}

-- "Unheld places .. are zero."
unfoldable pub zero_datum_b : Datum → Bool
zero_datum_b d =
    eqb d.serial 0 && (eqb d.size.width 0 && (eqb d.size.height 0 && (eqb d.number 0
    && (eqb d.level 0 && (eqb d.eaten 0 && (is_free d.kind && is_horizontal d.cut))))))

unfoldable pub zero_links_b : Node → Bool
zero_links_b n = eqb n.parent 0 && (eqb n.first 0 && (eqb n.last 0 && (eqb n.prev 0 && eqb n.next 0)))

abbrev pub zero_b : Node → Bool
zero_b n = zero_datum_b n.datum && zero_links_b n

-- "sides of at least 1"
abbrev pub sided_b : Size → Bool
sided_b s = leb 1 s.width && leb 1 s.height

-- no children
abbrev pub leaf_b : ℕ → Node → Bool
leaf_b limit n = eqb n.first limit && eqb n.last limit

-- a free piece has no children, no number, and is last; a part has no children; a structure has some and no number; the two have sides of at
-- least 1
abbrev pub kind_b : ℕ → Kind → Node → Bool
kind_b limit Free n = leaf_b limit n && (eqb n.datum.number 0 && eqb n.next limit)
kind_b limit Part n = leaf_b limit n && (leb n.datum.number max_number && sided_b n.datum.size)
kind_b limit Structure n = ltb n.first limit && (eqb n.datum.number 0 && sided_b n.datum.size)

unfoldable pub place_b : ℕ → Node → Bool
place_b limit n = cond (eqb n.datum.serial 0) (zero_b n) (kind_b limit n.datum.kind n)

unfoldable pub places_b : ℕ → List Node → Bool
places_b limit t = every (λ (i : ℕ). place_b limit (at t i)) limit

-- "the top is at place 0 and level 0, is no part, has the sheet's size and at least one child", and "record[s] 0": what stands there, and that it
-- hangs under no node and beside none
unfoldable pub top_datum_b : Settings → Datum → Bool
top_datum_b settings d =
    not (eqb d.serial 0) && (eqb d.level 0 && (eqb d.eaten 0 && (is_structure d.kind
    && (eqb d.size.width settings.sheet.width && eqb d.size.height settings.sheet.height))))

unfoldable pub top_links_b : ℕ → Node → Bool
top_links_b limit n = eqb n.parent limit && (eqb n.prev limit && eqb n.next limit)

unfoldable pub top_b : ℕ → Settings → Node → Bool
top_b limit settings n = top_datum_b settings n.datum && top_links_b limit n
