-- Document 01, "Sound layout": the clauses that one pass over the places tests, taken together, and the test of one place. The flags are those of the
-- places that the free list names, that the removable list names, and that hang in a row.
use Rattle.std.specs.Prelude.{List, Bool, true, false, cond, ◌&&◌, ◌||◌, not, ℕ, eqb, leb}
use Rattle.piece.specs.Sides.{area}
use Rattle.piece.specs.Numbers.{kind_no}
use Rattle.table.specs.declared.Node.{Node}
use Rattle.sound.specs.Columns.{areas_of, serials_of, kinds_of}
use Rattle.sound.specs.Places.{place_b, places_b}
use Rattle.sound.specs.Hung.{marked_b}
use Rattle.sound.specs.Listed.{agree, area_listed, covers_b, held_in, none_above_b}

-- ---- at one place

-- the node is a free piece, or a part or a structure
abbrev pub wanted_node : Bool → Node → Bool
wanted_node free n =
    not (eqb n.datum.serial 0) && cond free (eqb (kind_no n.datum.kind) 0) (not (eqb (kind_no n.datum.kind) 0))

-- the place is the top's, or unheld, or hangs in a row
abbrev pub hangs_b : ℕ → Node → ℕ → Bool
hangs_b i n hung = eqb i 0 || (eqb n.datum.serial 0 || eqb hung 1)

-- the flags of the two lists stand exactly where the node belongs
abbrev pub flags_b : Node → ℕ → ℕ → Bool
flags_b n free removable = agree (wanted_node true n) (eqb free 1) && agree (wanted_node false n) (eqb removable 1)

unfoldable pub node_b : ℕ → ℕ → ℕ → Node → ℕ → ℕ → ℕ → Bool
node_b limit last i n free removable hung =
    place_b limit n && (leb n.datum.serial last && (hangs_b i n hung && flags_b n free removable))

abbrev pub held_one : Node → ℕ
held_one n = cond (eqb n.datum.serial 0) 0 1

abbrev pub used_by : Node → ℕ
used_by n = cond (eqb (kind_no n.datum.kind) 1) (area n.datum.size) 0

-- ---- at all places

unfoldable pub census_b : ℕ → List Node → (last used held : ℕ) → (free removable hung : List ℕ) → Bool
census_b limit t last used held free removable hung =
    (places_b limit t && (none_above_b limit (serials_of t) last && (marked_b limit (serials_of t) hung
    && (covers_b limit true (serials_of t) (kinds_of t) free && covers_b limit false (serials_of t) (kinds_of t) removable))))
    && (eqb (held_in (serials_of t) limit) held && eqb (area_listed 1 (kinds_of t) (areas_of t) limit) used)
